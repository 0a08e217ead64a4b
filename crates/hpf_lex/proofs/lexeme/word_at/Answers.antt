use Rattle.std.proofs.Common.{◌≡◌, ℕ, false, nat_le, length, take, refl, sym, ◌∙◌, subst}
use Rattle.std.proofs.lemmas.Bool.{false_from_ne_true, false≢true}
use Rattle.hpf_lex.specs.Name.{is_name}
use Rattle.hpf_lex.specs.Lexeme.{spelled}
use Rattle.hpf_lex.proofs.Lexemes.{name_spelled}
use Rattle.hpf_lex.proofs.lexeme.word_at.Goals as goal

pub returns-in-None-clause-found : goal.returns-in-None-clause-found
returns-in-None-clause-found c =
    let bytes = c.args.bytes.now in
    let no_name : is_name (spelled bytes) ≡ false =
    subst (λ (n : ℕ). is_name (take n bytes) ≡ false) c.name_bytes-width.ensures.count
    (false_from_ne_true (is_name (take c.name_bytes-width.result bytes)) (λ h. false≢true (c.in-None.ensures.some.1 h))) in
    let too_long : nat_le (length (spelled bytes)) 31 ≡ false = sym (name_spelled bytes c.requires.some c.requires.letter) ∙ no_name in
    rw too_long refl
