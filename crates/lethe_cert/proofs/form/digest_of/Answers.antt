use Rattle.std.specs.Result.{result_ok}
use Rattle.std.proofs.Common.{unwrap_or, ◌≡◌, ◌∙◌, sym, ap, Ok, is_ok, is_some, true, true≢false, rules}
use Rattle.std.proofs.lemmas.Slice.Eq.{bytes_eq-Decides}
use Rattle.hex.specs.Hex.{decode_sized, encode_lower}
use Rattle.hex.proofs.HexLemmas.{decode_sized-encode_lower}
use Rattle.lethe_cert.proofs.form.digest_of.Goals as goal

pub returns-in_err-digest-clause-none : goal.returns-in_err-digest-clause-none
returns-in_err-digest-clause-none c = λ none digest is text.
    let ok : c.from_hex.result ≡ Ok digest = c.from_hex.ensures ∙ ap (λ t. decode_sized t 32) text ∙ decode_sized-encode_lower digest 32 is.0 is.1 in
    let some : is_some c.ok.result ≡ true = c.ok.ensures.variant ∙ ap is_ok ok in
    absurd (true≢false (sym some ∙ ap is_some c.in_err-digest.was))

pub returns-else-eq-clause-none : goal.returns-else-eq-clause-none
returns-else-eq-clause-none c = λ none digest is text.
    let ok : c.from_hex.result ≡ Ok digest = c.from_hex.ensures ∙ ap (λ t. decode_sized t 32) text ∙ decode_sized-encode_lower digest 32 is.0 is.1 in
    let found : c.in_ok-digest.digest ≡ digest = ap (λ o. unwrap_or o digest) (c.in_ok-digest.ensures.value ∙ ap result_ok ok) in
    let again : c.encode_to_slice.new.output ≡ encode_lower c.in_ok-digest.digest = search (rules, c.in_ok-ok.was, c.in_ok-ok.ensures) in
    let same : c.as_slice-2.result.now ≡ c.as_bytes.result.now = c.as_slice-2.ensures ∙ again ∙ ap encode_lower found ∙ sym text ∙ sym c.as_bytes.ensures.value in
    absurd (true≢false (sym ((bytes_eq-Decides c.as_slice-2.result.now c.as_bytes.result.now).1 same) ∙ sym c.eq.ensures ∙ c.if-eq.false))
