-- The places of the first put and of the first erase among records.
use Rattle.std.specs.Prelude.{ℕ, List, map, filter_map, Option, None, option_map}
use Rattle.lethe_base.specs.Shapes.{earlier}
use Rattle.lethe_base.specs.Spent.{least, put_place}
use Rattle.lethe_segment.specs.declared.record.Record.{Record}
use Rattle.lethe_stored.specs.Stored.{erase_of, plain}
use Rattle.lethe_state.specs.declared.firsts.Firsts.{Firsts}

-- of all records, also of those that later ones replace
abbrev pub firsts_in : List Record → Firsts
firsts_in records = record {
  put = least (filter_map put_place (map plain records));
  erase = least (map (λ erase. erase.seq) (filter_map erase_of records));
}

abbrev pub no_firsts : Firsts
no_firsts = record { put = None; erase = None }

-- the place of an erase
abbrev pub erase_place : Record → Option ℕ
erase_place r = option_map (λ erase. erase.seq) (erase_of r)

-- with one record more
abbrev pub firsts_with : Firsts → Record → Firsts
firsts_with firsts next = record { put = earlier firsts.put (put_place (plain next)); erase = earlier firsts.erase (erase_place next) }
