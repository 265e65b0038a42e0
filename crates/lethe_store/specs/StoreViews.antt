-- A store as those who share it see it.
use Rattle.std.specs.Prelude.{◌≡◌, List, Option, Some, None}
use Rattle.lethe_base.specs.declared.call.Call.TheVariants.{Work}
use Rattle.lethe_base.specs.declared.refused.Refused.{Refused}
use Rattle.lethe_cert.specs.declared.certificate.Certificate.{Certificate}
use Rattle.lethe_core.specs.Asked.{Failure, Serves, failure_of}
use Rattle.lethe_core.specs.View.{View, face_of, view_of}
use Rattle.lethe_disk.specs.declared.disk.Disk.{Ghosts}
use Rattle.lethe_engine.specs.Answers.{Answers}
use Rattle.lethe_engine.specs.declared.engine.Engine.{Engine}

-- what its calls say of it, and the certificates that it has answered
pub record StoreView : Type 1 where
  pub view : View
  pub certificates : List Certificate

abbrev pub store_view : {D Page Port : Type 0} {kind : Ghosts D Page Port} → Engine D Page Port kind → StoreView
store_view engine = record { view = view_of engine.core; certificates = engine.certificates.items }

-- that the disk failed in a call, if it did
abbrev pub failure_in : Option Refused → Option Failure
failure_in None = None
failure_in (Some why) = failure_of why

-- Nothing of the store was changed, as where a port was made: what it has in memory is as before, and the call is in no history.
pub record IsSameStore (Tells : Type 0) (old new : StoreView) : Type 0 where
  pub why : Option Refused
  pub unfailed : failure_in why ≡ None
  pub answers : Answers Tells (Serves Work) why (face_of old.view) old.view new.view
  pub state : new.view.state ≡ old.view.state
  pub pins : new.view.pins ≡ old.view.pins
  pub certificates : new.certificates ≡ old.certificates
