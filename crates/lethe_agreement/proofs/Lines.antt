-- A page agrees with one line of its number.
use Rattle.std.proofs.Common.{◌≡◌, ℕ, Option, List, ap, sym, subst, ◌∙◌}
use Rattle.sha2.specs.Sha256.{sha256}
use Rattle.lethe_base.specs.declared.entry.Entry.{Entry}
use Rattle.lethe_page.specs.declared.class.Class.{Class}
use Rattle.lethe_page.proofs.PageLaws.{same_page}
use Rattle.lethe_header.specs.declared.header.PageLine.{PageLine}
use Rattle.lethe_file.specs.Agreement.{Agrees, entries_in, keys_of}
use Rattle.lethe_build.specs.Parts.{IsLineOf}
use Rattle.lethe_agreement.specs.Soundness.{IsSpelled}
use Rattle.lethe_agreement.proofs.Filters.{one_filter}

-- lines are told by their fields
same_line : (a b : PageLine) → a.no ≡ b.no → a.class ≡ b.class → a.entries ≡ b.entries → a.max_seq ≡ b.max_seq → a.oldest ≡ b.oldest → a.fence ≡ b.fence → a.filter ≡ b.filter → a.digest ≡ b.digest → a ≡ b
same_line a b number class entries max_seq oldest fence filter digest =
    let with : ℕ → Class → ℕ → ℕ → Option ℕ → Option (ℕ × ℕ) → List ℕ → List ℕ → PageLine = λ n c e m o f w d. record { no = n; class = c; entries = e; max_seq = m; oldest = o; fence = f; filter = w; digest = d } in
    let same : with a.no a.class a.entries a.max_seq a.oldest a.fence a.filter a.digest ≡ with b.no b.class b.entries b.max_seq b.oldest b.fence b.filter b.digest = cc in
    same

pub one_line : (a b : PageLine) (bytes : List ℕ) → a.no ≡ b.no → Agrees a bytes → Agrees b bytes → a ≡ b
one_line a b bytes number p q =
    let class : a.class ≡ b.class = (same_page a.class b.class (entries_in bytes) (entries_in bytes) p.page.spelled q.page.spelled (sym p.spelled ∙ q.spelled)).0 in
    let digest : a.digest ≡ b.digest = sym p.page.digest ∙ ap sha256 (sym p.spelled ∙ q.spelled) ∙ q.page.digest in
    same_line a b number class (sym p.page.len ∙ q.page.len) (sym p.max_seq ∙ q.max_seq) (sym p.oldest ∙ q.oldest) (sym p.fence ∙ q.fence) (one_filter (keys_of (entries_in bytes)) a.filter b.filter p.filter q.filter) digest

-- the page of these entries and bytes agrees with a line of its number where that is the line of the entries, and only there
pub agrees_if : (line found : PageLine) (entries : List Entry) (bytes : List ℕ) → IsSpelled entries bytes → IsLineOf entries found → found.no ≡ line.no → line ≡ found → Agrees line bytes
agrees_if line found entries bytes is of number same = subst (λ (l : PageLine). Agrees l bytes) (sym same) (subst (Agrees found) (sym is.are) of.agrees)

pub same_if : (line found : PageLine) (entries : List Entry) (bytes : List ℕ) → IsSpelled entries bytes → IsLineOf entries found → found.no ≡ line.no → Agrees line bytes → line ≡ found
same_if line found entries bytes is of number agrees = one_line line found bytes (sym number) agrees (subst (Agrees found) (sym is.are) of.agrees)
