-- A list of tokens is one text at most.
use Rattle.std.proofs.Common.{◌≡◌, ℕ, ◌+◌, ◌≤◌, List, [], ◌∷◌, Result, Ok, sym, ap, ◌∙◌, arith}
use Rattle.hpf_lex.specs.declared.token.Token.{Token}
use Rattle.hpf_syntax.specs.declared.stop.BadToken.{BadToken}
use Rattle.hpf_syntax.specs.Plain.{ItemTree}
use Rattle.hpf_syntax.specs.Statements.{text_at}
use Rattle.hpf_syntax.specs.Rules.{Counted, tokens_of, IsWithin}
use Rattle.hpf_syntax.specs.Grammar.{IsText}
use Rattle.hpf_syntax.specs.FirstFault.{Spells}
use Rattle.hpf_syntax.proofs.Cuts.{cut_short}
use Rattle.hpf_syntax.proofs.TextLaw.{text_complete}

-- a limit that no number passes
limit_of : List Counted → ℕ
limit_of [] = 0
limit_of (c ∷ cs) = c.number + limit_of cs

within_limit : (max : ℕ) (cs : List Counted) → limit_of cs ≤ max → IsWithin max cs
unfolding limit_of
within_limit max [] le = tt
within_limit max (c ∷ cs) le = (omega (arith, le), within_limit max cs (omega (arith, le)))

read_so : (max : ℕ) (items : List ItemTree) (cs : List Counted) → IsText cs items → limit_of cs ≤ max → text_at max (tokens_of cs) ≡ Ok items
read_so max items cs p le = text_complete max items cs p ∙ cut_short max cs [] (Ok items) (within_limit max cs le)

ok_is : {a b : List ItemTree} → ◌≡◌ {A = Result (List ItemTree) BadToken} (Ok a) (Ok b) → a ≡ b
ok_is e = cc

pub one_list : (tokens : List Token) (a b : List ItemTree) → Spells tokens a → Spells tokens b → a ≡ b
one_list tokens a b (cs, p, e) (ds, q, f) =
    let max : ℕ = limit_of cs + limit_of ds in
    ok_is (sym (read_so max a cs p (omega arith)) ∙ ap (text_at max) (e ∙ sym f) ∙ read_so max b ds q (omega arith))
