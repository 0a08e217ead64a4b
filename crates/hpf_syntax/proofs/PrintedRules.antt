-- Rules whose canonical bytes are cut into tokens that are what the rule says, and how that follows for rules that are
-- made of others.
use Rattle.std.proofs.Common.{◌≡◌, ℕ, ◌+◌, false, List, [], ◌∷◌, ◌++◌, length, refl, subst, inl, inr, zero-le}
use Rattle.std.proofs.lemmas.List.{append-nil}
use Rattle.hpf_lex.specs.declared.token.Token.{Token}
use Rattle.hpf_lex.specs.declared.token.TokenKind.{TokenKind}
use Rattle.hpf_lex.specs.Bytes.{is_blank}
use Rattle.hpf_lex.specs.Spelling.{Spells}
use Rattle.hpf_lex.specs.Follows.{StopsAt}
use Rattle.hpf_syntax.specs.declared.tree.At.{At}
use Rattle.hpf_syntax.specs.declared.terminal.Terminal.{Terminal}
use Rattle.hpf_syntax.specs.Terminal.{Is}
use Rattle.hpf_syntax.specs.Plain.{place}
use Rattle.hpf_syntax.specs.Rules.{Counted, outside, tokens_of, Rule, Done, Then, ◌or◌, Sign, IsShort}
use Rattle.hpf_syntax.specs.Placeless.{nowhere}
use Rattle.hpf_syntax.proofs.Lexing.{Lexing}
use Rattle.hpf_syntax.proofs.Cuts.{tokens_append, short_append}
use Rattle.hpf_syntax.proofs.PrintedCuts.{IsCut, spelled_token, IsClosed, closed_stops, Opens, nothing_cut, cut_before, cut_append, cut_blank, cut_token}

-- ---- the first and the last byte

-- some bytes
abbrev pub IsSome : List ℕ → Type 0
IsSome [] = ⊥
IsSome (c ∷ rest) = Unit {0}

pub opens_some : (a : List ℕ) → Opens a → IsSome a
opens_some [] h = absurd h
opens_some (c ∷ a) h = tt

-- the last byte, if there is one, is no blank
abbrev pub EndsWell : List ℕ → Type 0
EndsWell [] = Unit {0}
EndsWell (c ∷ []) = is_blank c ≡ false
EndsWell (c ∷ d ∷ rest) = EndsWell (d ∷ rest)

pub ends_append : (a b : List ℕ) → EndsWell a → EndsWell b → EndsWell (a ++ b)
ends_append [] b p q = q
ends_append (c ∷ []) [] p q = p
ends_append (c ∷ []) (d ∷ b) p q = q
ends_append (c ∷ d ∷ a) b p q = ends_append (d ∷ a) b p q

ends_behind_blank : (c : ℕ) (b : List ℕ) → IsSome b → EndsWell b → EndsWell (c ∷ b)
ends_behind_blank c [] some h = absurd some
ends_behind_blank c (d ∷ b) some h = h

-- ---- rules

-- the bytes are cut into tokens that are what the rule says, with a value that looks so
pub record Prints {A B : Type 0} (R : Rule A) (view : A → B) (stops : List ℕ → Type 0) (bytes : List ℕ) (y : B) : Type 0 where
  pub reads : (line column : ℕ) → (x : A) × (cs : List Counted) × R cs x × IsShort cs × (view x ≡ y) × IsCut line column stops bytes (tokens_of cs)
  pub ends : EndsWell bytes

-- with other bytes, or a value that is the same
pub prints_as : {A B : Type 0} {R : Rule A} {view : A → B} {stops : List ℕ → Type 0} {b1 b2 : List ℕ} {y1 y2 : B} → b1 ≡ b2 → y1 ≡ y2 → Prints R view stops b1 y1 → Prints R view stops b2 y2
prints_as {R = R} {view = view} {stops = stops} {b1 = b1} {y2 = y2} e f p = subst (λ b. Prints R view stops b y2) e (subst (λ y. Prints R view stops b1 y) f p)

pub prints_before : {A B : Type 0} {R : Rule A} {view : A → B} {s1 s2 : List ℕ → Type 0} {bytes : List ℕ} {y : B} → ((rest : List ℕ) → s2 rest → s1 rest) → Prints R view s1 bytes y → Prints R view s2 bytes y
prints_before {bytes = bytes} stops p = record {
  reads = λ line column. let r = p.reads line column in (r.0, r.1, r.2, r.3, r.4, cut_before line column bytes (tokens_of r.1) stops r.5);
  ends = p.ends;
}

-- as a rule that says the same or more
pub prints_also : {A B : Type 0} {R Q : Rule A} {view : A → B} {stops : List ℕ → Type 0} {bytes : List ℕ} {y : B} → ((cs : List Counted) (x : A) → R cs x → Q cs x) → Prints R view stops bytes y → Prints Q view stops bytes y
prints_also wider p = record { reads = λ line column. let r = p.reads line column in (r.0, r.1, wider r.1 r.0 r.2, r.3, r.4, r.5); ends = p.ends }

pub done_prints : {A B : Type 0} {view : A → B} {stops : List ℕ → Type 0} (a : A) {y : B} → view a ≡ y → Prints (Done a) view stops [] y
done_prints {stops = stops} a e = record { reads = λ line column. (a, [], (refl, refl), tt, e, nothing_cut line column stops); ends = tt }

pub blank_prints : {A B : Type 0} {R : Rule A} {view : A → B} {stops : List ℕ → Type 0} (bytes : List ℕ) {y : B} → IsSome bytes → Prints R view stops bytes y → Prints R view stops (32 ∷ bytes) y
blank_prints bytes some p = record {
  reads = λ line column. let r = p.reads line (column + 1) in (r.0, r.1, r.2, r.3, r.4, cut_blank line column bytes (tokens_of r.1) r.5);
  ends = ends_behind_blank 32 bytes some p.ends;
}

pub left_prints : {A B : Type 0} {R Q : Rule A} {view : A → B} {stops : List ℕ → Type 0} {bytes : List ℕ} {y : B} → Prints R view stops bytes y → Prints (R or Q) view stops bytes y
left_prints p = record { reads = λ line column. let r = p.reads line column in (r.0, r.1, inl r.2, r.3, r.4, r.5); ends = p.ends }

pub right_prints : {A B : Type 0} {R Q : Rule A} {view : A → B} {stops : List ℕ → Type 0} {bytes : List ℕ} {y : B} → Prints Q view stops bytes y → Prints (R or Q) view stops bytes y
right_prints p = record { reads = λ line column. let r = p.reads line column in (r.0, r.1, inr r.2, r.3, r.4, r.5); ends = p.ends }

pub then_prints : {A B A' B' : Type 0} {R : Rule A} {S : A → Rule B} {view : A → A'} {view' : B → B'} {s1 s2 : List ℕ → Type 0} (b1 b2 : List ℕ) {y : A'} {z : B'}
    → Prints R view s1 b1 y → ((a : A) → view a ≡ y → Prints (S a) view' s2 b2 z) → ((rest : List ℕ) → s2 rest → s1 (b2 ++ rest)) → Prints (Then R S) view' s2 (b1 ++ b2) z
then_prints {R = R} {S = S} b1 b2 p q stops = record {
  reads = λ line column.
      let r = p.reads line column in
      let t = (q r.0 r.4).reads line (column + length b1) in (
        t.0,
        r.1 ++ t.1,
        (r.0, r.1, t.1, r.2, t.2, refl),
        short_append 64 r.1 t.1 r.3 t.3,
        t.4,
        rw (tokens_append r.1 t.1) (cut_append line column b1 b2 (tokens_of r.1) (tokens_of t.1) r.5 t.5 stops),
      );
  ends = let r = p.reads 0 0 in ends_append b1 b2 p.ends (q r.0 r.4).ends;
}

-- a value of what was read
pub value_prints : {A B A' B' : Type 0} {R : Rule A} {f : A → B} {view : A → A'} {view' : B → B'} {stops : List ℕ → Type 0} (bytes : List ℕ) {y : A'} {z : B'}
    → Prints R view stops bytes y → ((a : A) → view a ≡ y → view' (f a) ≡ z) → Prints (Then R (λ a. Done (f a))) view' stops bytes z
value_prints {f = f} {stops = stops} bytes p q = prints_as (append-nil bytes) refl (then_prints bytes [] p (λ a e. done_prints (f a) (q a e)) (λ rest stop. stop))

-- ---- signs

-- how a terminal that stands for itself is spelled
pub record IsSign (wanted : Terminal) (kind : TokenKind) (spelling : List ℕ) : Type 0 where
  pub spells : Spells kind spelling
  pub is : (line column : ℕ) → Is wanted (spelled_token kind spelling line column)
  pub ends : EndsWell spelling

pub sign_prints : Lexing → {wanted : Terminal} {kind : TokenKind} {spelling : List ℕ} → IsSign wanted kind spelling → Prints (Sign wanted) (λ at. nowhere) (StopsAt kind) spelling nowhere
sign_prints laws {kind = kind} {spelling = spelling} sign = record {
  reads = λ line column.
      let t : Token = spelled_token kind spelling line column in
      (place t, outside t ∷ [], (t, sign.is line column, refl, refl), (zero-le, tt), refl, cut_token laws line column kind spelling sign.spells);
  ends = sign.ends;
}

pub sign_then : Lexing → {B B' : Type 0} {wanted : Terminal} {kind : TokenKind} {spelling : List ℕ} {S : At → Rule B} {view : B → B'} {stops : List ℕ → Type 0} (bytes : List ℕ) {z : B'}
    → IsSign wanted kind spelling → ((at : At) → Prints (S at) view stops bytes z) → ((rest : List ℕ) → stops rest → StopsAt kind (bytes ++ rest)) → Prints (Then (Sign wanted) S) view stops (spelling ++ bytes) z
sign_then laws {spelling = spelling} bytes sign q stops = then_prints spelling bytes (sign_prints laws sign) (λ at e. q at) stops

-- a sign that nothing goes on with
pub closed_prints : Lexing → {wanted : Terminal} {kind : TokenKind} {spelling : List ℕ} {stops : List ℕ → Type 0} → IsSign wanted kind spelling → IsClosed kind → Prints (Sign wanted) (λ at. nowhere) stops spelling nowhere
closed_prints laws {kind = kind} sign closed = prints_before (λ rest stop. closed_stops kind closed rest) (sign_prints laws sign)

pub closed_then : Lexing → {B B' : Type 0} {wanted : Terminal} {kind : TokenKind} {spelling : List ℕ} {S : At → Rule B} {view : B → B'} {stops : List ℕ → Type 0} (bytes : List ℕ) {z : B'}
    → IsSign wanted kind spelling → IsClosed kind → ((at : At) → Prints (S at) view stops bytes z) → Prints (Then (Sign wanted) S) view stops (spelling ++ bytes) z
closed_then laws {kind = kind} bytes sign closed q = sign_then laws bytes sign q (λ rest stop. closed_stops kind closed (bytes ++ rest))
