-- What the scripts ask for.
use Rattle.std.proofs.Common.{◌≡◌, [], ◌∷◌, refl, Ok}
use Rattle.std.specs.Fmt.{digits}
use Rattle.lethe_script.specs.Fields.{caller_of, key_of, number_of, text_of, time_of}
use Rattle.lethe_script.specs.Grammar.{act_of, fields_say, get_of, item_fields, item_of, items_from, line_of, order_fields, put_fields, put_of, script_of, tick_of}
use Rattle.lethe_test_client.specs.Scripts.{get_order, put_and_get, put_and_tick, put_order, tick_order}

pub put_and_get_read : script_of put_and_get ≡ Ok ((put_order ∷ get_order ∷ []) ∷ [])
unfolding script_of items_from item_of line_of fields_say item_fields order_fields act_of put_of put_fields get_of caller_of key_of number_of text_of digits
put_and_get_read = refl

pub put_and_tick_read : script_of put_and_tick ≡ Ok ((put_order ∷ tick_order ∷ []) ∷ [])
unfolding script_of items_from item_of line_of fields_say item_fields order_fields act_of put_of put_fields tick_of caller_of key_of number_of text_of time_of digits
put_and_tick_read = refl
