-- What the answer to a text says, and that there is one.
use Rattle.std.proofs.Common.{◌≡◌, List, map, Result, Ok, Err, refl, sym, ap, ◌∙◌, inl, inr}
use Rattle.std.specs.Prelude.{◌⊎◌, IfOk}
use Rattle.hpf_lex.specs.declared.token.Token.{Token}
use Rattle.hpf_lex.specs.declared.refusal.MapError.{MapError}
use Rattle.hpf_lex.specs.declared.refusal.MapError.TheVariants as answer
use Rattle.hpf_lex.specs.Whole.{AreWhole}
use Rattle.hpf_lex.specs.Text.{IfRefused, IsRefused}
use Rattle.hpf_syntax.specs.declared.tree.Item.{Item}
use Rattle.hpf_syntax.specs.declared.stop.BadToken.{BadToken}
use Rattle.hpf_syntax.specs.Plain.{ItemTree, item_tree}
use Rattle.hpf_syntax.specs.Statements.{text_at}
use Rattle.hpf_syntax.specs.FirstFault.{SpellsShortly, code_of, IsRefusalOf}
use Rattle.hpf_syntax.specs.Refusal.{Refuses, refusal_at, IsRead}
use Rattle.hpf_lex.specs.declared.refusal.MapRefusal.{MapRefusal}
use Rattle.hpf_syntax.proofs.OneFault.{no_fault, one_refusal}
use Rattle.hpf_syntax.proofs.FaultLaw.{is_found, is_read, is_refused}

pub answer_found : (ts : List Token) (r : Result (List Item) MapError) → Refuses (λ items. map item_tree items) ts r (text_at 64 ts) → IfOk r (λ items. SpellsShortly ts (map item_tree items))
answer_found ts (Ok items) h = is_found ts (map item_tree items) h
answer_found ts (Err e) h = tt

ok_is : {a b : List ItemTree} → ◌≡◌ {A = Result (List ItemTree) BadToken} (Ok a) (Ok b) → a ≡ b
ok_is e = cc

err_is_not_ok : {a : List ItemTree} {b : BadToken} → ◌≡◌ {A = Result (List ItemTree) BadToken} (Err b) (Ok a) → ⊥
err_is_not_ok e = absurd cc

pub answer_only : (ts : List Token) (r : Result (List Item) MapError) → Refuses (λ items. map item_tree items) ts r (text_at 64 ts) → (trees : List ItemTree) → SpellsShortly ts trees → IsRead r trees
answer_only ts (Ok items) h trees p = ok_is (sym h ∙ is_read ts trees p)
answer_only ts (Err (answer.Refused r)) (b, h, q) trees p = err_is_not_ok (sym h ∙ is_read ts trees p)
answer_only ts (Err (answer.Memory e)) h trees p = tt

pub answer_refused : (ts : List Token) → AreWhole ts → (r : Result (List Item) MapError) → Refuses (λ items. map item_tree items) ts r (text_at 64 ts) → IfRefused r (IsRefusalOf ts)
answer_refused ts whole (Ok items) h = tt
answer_refused ts whole (Err (answer.Refused r)) (b, h, q) =
    let (before, bad, after, e, first, d) = is_refused ts b whole h in
    (b.fault, before, bad, after, e, first, q ∙ ap (λ (us : List Token). refusal_at b.fault us) d)
answer_refused ts whole (Err (answer.Memory e)) h = tt

pub answer_only_fault : (ts : List Token) (r : Result (List Item) MapError) → IfOk r (λ items. SpellsShortly ts (map item_tree items)) → IfRefused r (IsRefusalOf ts) → (s : MapRefusal) → IsRefusalOf ts s → IsRefused r s
answer_only_fault ts (Ok items) found refused s h = no_fault ts (map item_tree items) s found h
answer_only_fault ts (Err (answer.Refused r)) found refused s h = one_refusal ts r s refused h
answer_only_fault ts (Err (answer.Memory e)) found refused s h = tt

-- tokens of whole statements are read, or refused
pub read_or_refused : (ts : List Token) → AreWhole ts → ((items : List ItemTree) × SpellsShortly ts items) ⊎ ((r : MapRefusal) × IsRefusalOf ts r)
read_or_refused ts whole = by_reading (text_at 64 ts) refl where
  by_reading : (read : Result (List ItemTree) BadToken) → text_at 64 ts ≡ read → ((items : List ItemTree) × SpellsShortly ts items) ⊎ ((r : MapRefusal) × IsRefusalOf ts r)
  by_reading (Ok items) e = inl (items, is_found ts items e)
  by_reading (Err b) e =
      let (before, bad, after, is, first, _) = is_refused ts b whole e in
      inr (record { code = code_of b.fault; line = bad.line; column = bad.column }, (b.fault, before, bad, after, is, first, refl))
