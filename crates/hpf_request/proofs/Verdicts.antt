-- The order of tests comes to one verdict.
use Rattle.std.proofs.Common.{◌≡◌, ◌+◌, ℕ, List, take, Some, None, inl, inr, sym, ap, ◌∙◌, subst}
use Rattle.hpf_io.specs.Files.{Files, HasFront}
use Rattle.hpf_io.specs.States.{LoaderState}
use Rattle.hpf_lex.specs.declared.refusal.MapRefusal.{MapRefusal}
use Rattle.hpf_lex.specs.declared.token.Token.{Token}
use Rattle.hpf_lex.specs.Statement.{max_text}
use Rattle.hpf_lex.specs.Text.{HasTokens, HasFault}
use Rattle.hpf_status.specs.Statuses.{refusal_status}
use Rattle.hpf_syntax.specs.FirstFault.{Spells, SpellsShortly, IsRefusalOf}
use Rattle.hpf_syntax.specs.Parsed.{Says, IsFaultOf}
use Rattle.hpf_syntax.specs.Plain.{ItemTree}
use Rattle.hpf_words.specs.declared.asked.Asked.{Asked}
use Rattle.hpf_words.specs.Words.{AsksFor}
use Rattle.hpf_request.specs.declared.words.Action.{Action}
use Rattle.hpf_request.specs.declared.words.Action.TheVariants as action
use Rattle.hpf_request.specs.Order.{Verdict, Denied, Judges, Faulty, Refused, Passed, Comes, Order, NoAction, NotBuilt, OfText, refused_by, run_verdict, make_verdict}
use Rattle.hpf_request.specs.Words.{Asks, built}
use Rattle.hpf_request.proofs.Alike.{OnlyIndices, one_owners, one_local}
use Rattle.hpf_request.proofs.OneForm.{one_form}

-- ---- one verdict

-- what is known of texts and tokens: each is read in one way
pub record ReadOnce : Type 0 where
  pub tokens : (text : List ℕ) (a b : List Token) → HasTokens text a → HasTokens text b → a ≡ b
  pub no_tokens : (text : List ℕ) (tokens : List Token) (f : MapRefusal) → HasTokens text tokens → HasFault text f → ⊥
  pub fault : (text : List ℕ) (f g : MapRefusal) → HasFault text f → HasFault text g → f ≡ g
  pub items : (tokens : List Token) (a b : List ItemTree) → Spells tokens a → Spells tokens b → a ≡ b
  pub no_items : (tokens : List Token) (items : List ItemTree) (r : MapRefusal) → SpellsShortly tokens items → IsRefusalOf tokens r → ⊥
  pub refusal : (tokens : List Token) (r t : MapRefusal) → IsRefusalOf tokens r → IsRefusalOf tokens t → r ≡ t
  pub order : OnlyIndices

says_once : ReadOnce → (text : List ℕ) (a b : List ItemTree) → Says text a → Says text b → a ≡ b
says_once once text a b f g =
    let same = once.tokens text f.0 g.0 f.1 g.1 in
    let first : Spells g.0 a = subst (λ (ts : List Token). Spells ts a) same (f.2.0, f.2.1, f.2.2) in
    once.items g.0 a b first (g.2.0, g.2.1, g.2.2)

never_both : ReadOnce → (text : List ℕ) (items : List ItemTree) (r : MapRefusal) → Says text items → IsFaultOf text r → ⊥
never_both once text items r says (inl fault) = once.no_tokens text says.0 r says.1 fault
never_both once text items r says (inr fault) =
    once.no_items says.0 items r says.2 (subst (λ (ts : List Token). IsRefusalOf ts r) (once.tokens text fault.0 says.0 fault.1 says.1) fault.2)

fault_once : ReadOnce → (text : List ℕ) (r t : MapRefusal) → IsFaultOf text r → IsFaultOf text t → r ≡ t
fault_once once text r t (inl f) (inl g) = once.fault text r t f g
fault_once once text r t (inl f) (inr g) = absurd (once.no_tokens text g.0 r g.1 f)
fault_once once text r t (inr f) (inl g) = absurd (once.no_tokens text f.0 t f.1 g)
fault_once once text r t (inr f) (inr g) =
    once.refusal g.0 r t (subst (λ (ts : List Token). IsRefusalOf ts r) (once.tokens text f.0 g.0 f.1 g.1) f.2) g.2

never_passed : (asked : Action) (items : List ItemTree) (r : MapRefusal) → refused_by asked items ≡ Some r → refused_by asked items ≡ None → ⊥
never_passed asked items r is clear = absurd (let no : Some r ≡ None = sym is ∙ clear in cc)

-- what an action makes of statements is one thing
one_coming : OnlyIndices → (asked : Action) (items : List ItemTree) (v w : Verdict) → Comes asked items v → Comes asked items w → v ≡ w
one_coming only action.Show items v w f g = f ∙ sym g
one_coming only action.Check items v w f g = f ∙ sym g
one_coming only (action.Owners name) items v w f g = f.2 ∙ (one_owners only items name f.0 g.0 f.1 g.1 ∙ sym g.2)
one_coming only (action.Local name p) items v w f g = f.2 ∙ (one_local only items name p f.0 g.0 f.1 g.1 ∙ sym g.2)
one_coming only action.Run items v w f g = f.2 ∙ (ap run_verdict (one_form only items f.0 g.0 f.1 g.1) ∙ sym g.2)
one_coming only (action.Make frames seed) items v w f g = f.2 ∙ (ap (make_verdict frames seed) (one_form only items f.0 g.0 f.1 g.1) ∙ sym g.2)

one_judgement : ReadOnce → (asked : Action) (text : List ℕ) (v w : Verdict) → Judges asked text v → Judges asked text w → v ≡ w
one_judgement once asked text v w (Faulty r f e) (Faulty t g h) = e ∙ (ap (λ (z : MapRefusal). Denied (refusal_status z)) (fault_once once text r t f g) ∙ sym h)
one_judgement once asked text v w (Faulty r f e) (Refused items says t is h) = absurd (never_both once text items r says f)
one_judgement once asked text v w (Faulty r f e) (Passed items says clear comes) = absurd (never_both once text items r says f)
one_judgement once asked text v w (Refused items says t is h) (Faulty r f e) = absurd (never_both once text items r says f)
one_judgement once asked text v w (Passed items says clear comes) (Faulty r f e) = absurd (never_both once text items r says f)
one_judgement once asked text v w (Refused items says r is e) (Refused others says' t at h) =
    let one = subst (λ (z : List ItemTree). refused_by asked z ≡ Some r) (says_once once text items others says says') is in
    let both : Some r ≡ Some t = sym one ∙ at in
    let same : r ≡ t = cc in
    e ∙ (ap (λ (z : MapRefusal). Denied (refusal_status z)) same ∙ sym h)
one_judgement once asked text v w (Refused items says r is e) (Passed others says' clear comes) =
    absurd (never_passed asked others r (subst (λ (z : List ItemTree). refused_by asked z ≡ Some r) (says_once once text items others says says') is) clear)
one_judgement once asked text v w (Passed others says' clear comes) (Refused items says r is e) =
    absurd (never_passed asked others r (subst (λ (z : List ItemTree). refused_by asked z ≡ Some r) (says_once once text items others says says') is) clear)
one_judgement once asked text v w (Passed items says clear comes) (Passed others says' clear' comes') =
    one_coming once.order asked others v w (subst (λ (z : List ItemTree). Comes asked z v) (says_once once text items others says says') comes) comes'

-- words ask for one thing, built or not
abbrev pub OneLine : Type 0
OneLine = (words : List (List ℕ)) (a b : Asked) (m n : List ℕ) → AsksFor words a m → AsksFor words b n → (a ≡ b) × (m ≡ n)

-- the words ask for one action that is built
pub one_asked : OneLine → (words : List (List ℕ)) (a b : Action) (m n : List ℕ) → Asks words a m → Asks words b n → (a ≡ b) × (m ≡ n)
one_asked one words a b m n f g =
    let same = one words f.asked g.asked m n f.asks g.asks in
    let both : Some a ≡ Some b = sym f.is_built ∙ (ap built same.0 ∙ g.is_built) in
    let said : a ≡ b = cc in
    (said, same.1)

-- what isn't built isn't asked for
never_built : OneLine → (words : List (List ℕ)) (asked : Asked) (a : Action) (m n : List ℕ) → AsksFor words asked m → built asked ≡ None → Asks words a n → ⊥
never_built one words asked a m n f none g =
    let both : None ≡ Some a = sym none ∙ (ap built (one words asked g.asked m n f g.asks).0 ∙ g.is_built) in
    absurd cc

-- one front stands under a name
one_front : (all : Files) (m n a b : List ℕ) → m ≡ n → HasFront all m (max_text + 1) a → HasFront all n (max_text + 1) b → a ≡ b
one_front all m n a b e f g =
    let h = f.1 in
    let i = g.1 in
    let same : f.0 ≡ g.0 = cc in
    f.2 ∙ (ap (take (max_text + 1)) same ∙ sym g.2)

-- where the files are told, the words and the text come to one verdict
pub one_verdict : OneLine → ReadOnce → (words : List (List ℕ)) (loader : LoaderState) (all : Files) (v w : Verdict) → loader.files ≡ Some all → Order words loader v → Order words loader w → v ≡ w
one_verdict one once words loader all v w is (NoAction none e) (NoAction none' h) = e ∙ sym h
one_verdict one once words loader all v w is (NoAction none e) (NotBuilt asked name asks unbuilt h) = absurd (none asked name asks)
one_verdict one once words loader all v w is (NoAction none e) (OfText asked name text asks loaded judged) = absurd (none asks.asked name asks.asks)
one_verdict one once words loader all v w is (NotBuilt asked name asks unbuilt e) (NoAction none h) = absurd (none asked name asks)
one_verdict one once words loader all v w is (NotBuilt asked name asks unbuilt e) (NotBuilt other name' asks' unbuilt' h) = e ∙ sym h
one_verdict one once words loader all v w is (NotBuilt asked name asks unbuilt e) (OfText a n text asks' loaded judged) = absurd (never_built one words asked a name n asks unbuilt asks')
one_verdict one once words loader all v w is (OfText asked name text asks loaded judged) (NoAction none h) = absurd (none asks.asked name asks.asks)
one_verdict one once words loader all v w is (OfText a n text asks loaded judged) (NotBuilt asked name asks' unbuilt h) = absurd (never_built one words asked a name n asks' unbuilt asks)
one_verdict one once words loader all v w is (OfText a m text asks loaded judged) (OfText b n other asks' loaded' judged') =
    let same = one_asked one words a b m n asks asks' in
    let texts = one_front all m n text other same.1 (loaded.front all is) (loaded'.front all is) in
    one_judgement once b other v w (subst (λ (z : List ℕ). Judges b z v) texts (subst (λ (z : Action). Judges z text v) same.0 judged)) judged'
