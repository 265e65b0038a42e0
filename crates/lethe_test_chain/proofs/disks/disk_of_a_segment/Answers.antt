use Rattle.std.proofs.Common.{◌≡◌, ℕ, List, [], ◌+◌, length, refl, sym, ap, subst, ◌∙◌, Some}
use Rattle.std.specs.FinMap.{empty, get-empty}
use Rattle.lethe_base.specs.declared.name.Kind.TheVariants.{Segment}
use Rattle.lethe_base.specs.declared.name.Name.{Name}
use Rattle.lethe_base.specs.Names.{name_cmp}
use Rattle.lethe_disk.specs.Directory.{object}
use Rattle.lethe_disk.proofs.Objects.{object_inserted}
use Rattle.lethe_memdisk.specs.Effects.{Created, Synced}
use Rattle.lethe_memdisk.specs.Held.{Held, seen_of, fresh, taken}
use Rattle.lethe_segment.specs.Segments.{head_bytes, segment_bytes}
use Rattle.lethe_commit.specs.Append.{EndsAt}
use Rattle.lethe_test_chain.specs.declared.disks.TheConstants.{SEGMENT}
use Rattle.lethe_test_chain.proofs.disks.disk_of_a_segment.Goals as goal

abbrev third : Name
third = record { kind = Segment; no = 3 }

abbrev made : List ℕ → List ℕ → Held
made failing bytes = taken Synced (taken (Created SEGMENT bytes) (fresh empty 40 failing))

new_long : 11 + 1 ≡ length (segment_bytes 3 [])
unfolding head_bytes segment_bytes
new_long = refl

ends_made : (failing bytes : List ℕ) → bytes ≡ segment_bytes 3 [] → EndsAt (seen_of (made failing bytes)) SEGMENT 3 [] 11
ends_made failing bytes is = record {
  ascends = tt;
  spelled = λ c here. ap (λ x. object x SEGMENT) here ∙ object_inserted empty SEGMENT bytes ∙ ap Some is;
  place = new_long;
}

ends_now : (disk created synced : Held) (failing bytes : List ℕ) → disk ≡ fresh empty 40 failing → created ≡ taken (Created SEGMENT bytes) disk → synced ≡ taken Synced created → bytes ≡ segment_bytes 3 []
    → EndsAt (seen_of synced) SEGMENT 3 [] 11
ends_now disk created synced failing bytes new then last is =
    let is_made : synced ≡ made failing bytes = last ∙ ap (taken Synced) (then ∙ ap (taken (Created SEGMENT bytes)) new) in
    subst (λ held. EndsAt (seen_of held) SEGMENT 3 [] 11) (sym is_made) (ends_made failing bytes is)

pub create-requires : goal.create-requires
create-requires c = ap (λ held. object (seen_of held).directory third) c.in_ok-disk.ensures ∙ get-empty name_cmp third

pub returns-clause-ready : goal.returns-clause-ready
returns-clause-ready c =
    ends_now c.in_ok-disk.disk c.create.new.self c.sync.new.self c.args.failing.items c.new_segment.result c.in_ok-disk.ensures c.in-Ok.ensures.answer c.in-Ok-sync.ensures.call.answer c.new_segment.ensures
