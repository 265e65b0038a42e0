-- The last step of a tick is the one that may leave the history with it.
use Rattle.std.proofs.Common.{subst, sym, arith}
use Rattle.lethe_base.specs.History.{History}
use Rattle.lethe_base.specs.declared.config.Fields.{Fields}
use Rattle.lethe_disk.specs.Directory.{Directory}
use Rattle.lethe_disk.specs.Disk.{Seen}
use Rattle.lethe_disk.specs.Goes.{Goes}
use Rattle.lethe_stored.specs.Encodes.{Encodes}
use Rattle.lethe_stored.specs.Kept.{IsKept}
use Rattle.lethe_stored.specs.Stored.{Stored}
use Rattle.lethe_core.specs.Running.{Holds}
use Rattle.lethe_core.specs.View.{View}
use Rattle.lethe_tick.specs.Last.{HasLastStep}

-- it begins where what is stored is held
pub last_step : (config : Fields) (h : History) (stored : Stored) (mid : View) (old new : Seen) (P : Directory → Type 0) → Holds mid stored → Goes (λ c. IsKept config c h) old mid.disk → Goes P mid.disk new
    → HasLastStep config h stored old new
last_step config h stored mid old new P holds before behind =
    let settled = holds.running.settled in
    record {
      begins = mid.disk.moment;
      since = before.later;
      upto = behind.later;
      there = λ c left. subst (λ (d : Directory). Encodes d stored) (sym (settled.synced c ((behind.past mid.disk.moment c (omega arith)).0 left))) settled.encodes;
      without = λ moment c low high left. before.each moment c low high ((behind.past moment c high).0 left);
    }
