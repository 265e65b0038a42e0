-- Names that a store in its first moments doesn't have.
use Rattle.std.specs.Prelude.{Bool, true, false, ◌||◌, nat_lt}
use Rattle.lethe_base.specs.declared.name.Kind.{Kind}
use Rattle.lethe_base.specs.declared.name.Kind.TheVariants.{Gate, Manifest, Segment, File, Page}
use Rattle.lethe_base.specs.declared.name.Name.{Name}

abbrev pub is_gate : Kind → Bool
is_gate Gate = true
is_gate Manifest = false
is_gate Segment = false
is_gate File = false
is_gate Page = false

-- an object that comes with a flush at the earliest
abbrev pub is_of_files : Kind → Bool
is_of_files File = true
is_of_files Page = true
is_of_files Gate = false
is_of_files Manifest = false
is_of_files Segment = false

-- a header or a page, or an object behind segment 1 and manifest 2, with which a store begins
abbrev pub is_stray : Name → Bool
is_stray name = is_of_files name.kind || nat_lt 2 name.no
