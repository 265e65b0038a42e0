-- A disk in memory whose ports fail at some of their fetches.
use Rattle.std.specs.Prelude.{◌≡◌, ℕ, ◌+◌, ◌==◌, Bool, if◌then◌else◌, List, Result, refl}
use Rattle.std.specs.Coded.{Coded, code_by, coded_ℕ, coded_list, coded×}
use Rattle.std.specs.List.{list_any}
use Rattle.lethe_base.specs.Counts.{counted}
use Rattle.lethe_disk.specs.declared.disk.DiskRefused.{DiskRefused}
use Rattle.lethe_memdisk.specs.Effects.{Effect}
use Rattle.lethe_memdisk.specs.Held.{Held, held_code, Answers}

pub record Flaky : Type 0 where
  pub inner : Held
  -- the numbers of the fetches that fail on each port, counted from 1
  pub failing : List ℕ

-- how it is stored
abbrev pub flaky_code : Coded Flaky
flaky_code = code_by (Held × List ℕ) (coded× held_code (coded_list coded_ℕ)) (λ f. (f.inner, f.failing)) (λ p. record { inner = p.0; failing = p.1 }) (λ _. refl)

pub record Reader : Type 0 where
  -- the numbers of the fetches that fail, counted from 1
  pub failing : List ℕ
  -- how many fetches there were
  pub fetches : ℕ
  pub faults : ℕ

-- how it is stored
abbrev pub reader_code : Coded Reader
reader_code = code_by (List ℕ × (ℕ × ℕ)) (coded× (coded_list coded_ℕ) (coded× coded_ℕ coded_ℕ)) (λ r. (r.failing, (r.fetches, r.faults))) (λ p. record { failing = p.0; fetches = (p.1).0; faults = (p.1).1 }) (λ _. refl)

-- a port that has taken no fetch
abbrev pub fresh_reader : List ℕ → Reader
fresh_reader failing = record { failing = failing; fetches = 0; faults = 0 }

-- whether its next fetch fails: its number is listed
abbrev pub fetch_fails : Reader → Bool
fetch_fails reader = list_any (λ n. n == reader.fetches + 1) reader.failing

-- after a fetch, which is counted, and as a fault where it fails
abbrev pub after_fetch : Reader → Reader
after_fetch reader = record reader { fetches = reader.fetches + 1; faults = if fetch_fails reader then counted reader.faults else reader.faults }

-- a device call, which is the inner disk's
pub record AnswersInside {T : Type 0} (effect : Effect) (result : Result T DiskRefused) (old new : Flaky) : Type 0 where
  pub inner : Answers effect result old.inner new.inner
  pub failing : new.failing ≡ old.failing
