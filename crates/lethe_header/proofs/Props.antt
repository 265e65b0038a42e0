-- That a header has a spelling is a proposition.
use Rattle.std.proofs.Common.{ℕ, List, Option, Some, None}
use Rattle.std.proofs.Props.{props}
use Rattle.lethe_base.specs.Spelling.{IsTimeOrNone}
use Rattle.lethe_page.specs.declared.class.Class.{Class}
use Rattle.lethe_page.specs.declared.class.Class.TheVariants.{Puts, Tombs}
use Rattle.lethe_header.specs.Headers.{HasRoomFor, IsFence, IsFrom, HasSpelling}
use Rattle.lethe_header.specs.declared.header.Header.{Header}
use Rattle.lethe_header.specs.declared.header.PageLine.{PageLine}

IsTimeOrNone-prop : (time : Option ℕ) → IsProp (IsTimeOrNone time)
IsTimeOrNone-prop None = hlevel props
IsTimeOrNone-prop (Some time) = hlevel props

IsFence-prop : (class : Class) (fence : Option (ℕ × ℕ)) → IsProp (IsFence class fence)
IsFence-prop Puts None = hlevel props
IsFence-prop Puts (Some fence) = hlevel props
IsFence-prop Tombs None = hlevel props
IsFence-prop Tombs (Some fence) = hlevel props

HasRoomFor-prop : (class : Class) (before : List PageLine) → IsProp (HasRoomFor class before)
HasRoomFor-prop Puts before = hlevel props
HasRoomFor-prop Tombs before = hlevel props

IsFrom-prop : (dkey : ℕ) (fence : Option (ℕ × ℕ)) → IsProp (IsFrom dkey fence)
IsFrom-prop dkey None = hlevel props
IsFrom-prop dkey (Some fence) = hlevel props

pub HasSpelling-prop : (header : Header) → IsProp (HasSpelling header)
HasSpelling-prop header = hlevel (props, IsTimeOrNone-prop, IsFence-prop, HasRoomFor-prop, IsFrom-prop)
