use Rattle.std.proofs.Common.{Result, Ok, Err, refl}
use Rattle.std.specs.Prelude.{option_map}
use Rattle.std.specs.Result.{result_err}
use Rattle.lethe_base.specs.declared.call.Call.TheVariants.{Work}
use Rattle.lethe_base.specs.declared.memory.NoMemory as memory
use Rattle.lethe_base.specs.declared.refused.Refused.TheVariants.{NoMemory}
use Rattle.lethe_core.specs.Asked.{Serves}
use Rattle.lethe_core.specs.Steps.{IsBeside}
use Rattle.lethe_core.specs.View.{View, view_of}
use Rattle.lethe_core.proofs.Standing.{idle_back, sound_back, stands_back}
use Rattle.lethe_engine.proofs.Calls.{IsNoChange, idle_answers, refused_is_none, served_is_none}
use Rattle.lethe_engine.proofs.engine.Engine.new_port.Goals as goal

-- whether or not there was memory, it is in no history
no_change : {T : Type 0} (result : Result T memory.NoMemory) → IsNoChange (Serves Work) (option_map (λ none. NoMemory) (result_err result))
no_change (Ok port) = served_is_none Work
no_change (Err none) = refused_is_none (Serves Work) NoMemory refl

pub returns-clause-answers : goal.returns-clause-answers
returns-clause-answers g c =
    let old : View = view_of c.args.self.now.core in
    let new : View = record old { disk = g.D.Disk.seen c.port.new.self; faults = g.D.Disk.faults c.port.new.self } in
    let rest : IsBeside old new = record { levels = refl; retired = refl; flights = refl; begun = refl; rounds = refl; pins = refl } in
    idle_answers g.D.Disk.tells (option_map (λ none. NoMemory) (result_err c.port.result)) old new (sound_back g.D.Disk.tells old new (λ told. idle_back old.disk new.disk (c.port.ensures.idle told)) refl rest c.requires)
    refl refl refl c.port.ensures.faults c.port.ensures.idle
    (λ told config h stands. stands_back old new (idle_back old.disk new.disk (c.port.ensures.idle told)) config h refl rest stands) (no_change c.port.result)
