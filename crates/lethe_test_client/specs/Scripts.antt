-- The scripts of the clients, what their lines ask for, and what is printed of them.
use Rattle.std.specs.Prelude.{◌≡◌, [], ◌∷◌, ◌++◌, length, codes}
use Rattle.hex.specs.Hex.{encode_lower}
use Rattle.lethe_base.specs.History.{Change}
use Rattle.lethe_base.specs.Keys.{Bytes}
use Rattle.lethe_base.specs.declared.call.Call.TheVariants as call
use Rattle.lethe_base.specs.declared.call.Did.TheVariants.{Done}
use Rattle.lethe_script.specs.declared.order.Act.TheVariants.{Put, Get, Tick}
use Rattle.lethe_script.specs.declared.order.Order.{Order}

-- with a line break behind it
abbrev pub ended : Bytes → Bytes
ended line = line ++ 10 ∷ []

-- `1 put a 5 x`, `1 get a`
abbrev pub put_and_get : Bytes
put_and_get = ended (codes "1 put a 5 x") ++ ended (codes "1 get a")

-- `1 put a 5 x`, `1 tick 1000`
abbrev pub put_and_tick : Bytes
put_and_tick = ended (codes "1 put a 5 x") ++ ended (codes "1 tick 1000")

-- what the lines ask for

abbrev pub put_order : Order
put_order = record { line = 1; caller = 1; act = Put (codes "a") 5 (codes "x") }

abbrev pub get_order : Order
get_order = record { line = 2; caller = 1; act = Get (codes "a") }

abbrev pub tick_order : Order
tick_order = record { line = 2; caller = 1; act = Tick 1000 }

-- the changes that they make

abbrev pub the_put : Change
the_put = record { caller = 1; call = call.Put (codes "a") 5 (codes "x"); did = Done }

abbrev pub the_tick : Change
the_tick = record { caller = 1; call = call.Tick 1000; did = Done }

-- what is printed where all was answered

abbrev pub get_text : Bytes
get_text = ended (codes "1 ok 1") ++ ended (codes "1 at 1 val 5 x")

-- with the digest of a certificate, which are 32 bytes, in 64 hexadecimal digits
abbrev pub tick_text : Bytes → Bytes
tick_text digest = ended (codes "1 ok 1") ++ ended (codes "1 ok 2 clock 1000 cert 1 before 0 sha256 " ++ encode_lower digest)

abbrev pub IsTickText : Bytes → Type 0
IsTickText text = (digest : Bytes) × (length digest ≡ 32) × (text ≡ tick_text digest)
