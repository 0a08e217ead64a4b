-- The tokens of a line's bytes are those of the relation, and no others.
use Rattle.std.proofs.Common.{◌≡◌, ℕ, zero, suc, ◌+◌, ◌<◌, ◌≤◌, false, List, [], ◌∷◌, length, take, drop, Result, Ok, Err, refl, sym, ap, subst, inl, inr, arith, take-append-drop, length-drop}
use Rattle.std.proofs.lemmas.Bool.{cases_Bool}
use Rattle.std.proofs.lemmas.List.{length-take-le, drop_at, length-append}
use Rattle.hpf_lex.specs.declared.lexeme.Lexeme.{Lexeme}
use Rattle.hpf_lex.specs.declared.refusal.Fault.{Fault}
use Rattle.hpf_lex.specs.declared.refusal.MapRefusal.{MapRefusal}
use Rattle.hpf_lex.specs.declared.token.Token.{Token}
use Rattle.hpf_lex.specs.Bytes.{is_blank}
use Rattle.hpf_lex.specs.Lexeme.{lexeme_at}
use Rattle.hpf_lex.specs.Statement.{Mark, token_at, refusal_at, marks}
use Rattle.hpf_lex.specs.Statement as statement
use Rattle.hpf_lex.specs.Text.{tokens_of, faults_of}
use Rattle.hpf_lex.specs.Cut.{Cut, nothing, blank, token}
use Rattle.hpf_lex.proofs.Marks.{marks-none, marks-blank, marks-token, marks-fault}
use Rattle.hpf_lex.proofs.Longest.{is_longest, token_some}

-- ---- from the marks to the relation

some_fault : (f : MapRefusal) (others : List Mark) → faults_of (statement.fault f ∷ others) ≡ [] → ⊥
some_fault f others e = cc

CutBy : ℕ → ℕ → List ℕ → List Mark → Type 0
CutBy line column bytes ms = faults_of ms ≡ [] → Cut line column bytes (tokens_of ms)

cut_step : (line column c : ℕ) (rest : List ℕ) → ((column' : ℕ) (bytes : List ℕ) → length bytes ≤ length rest → CutBy line column' bytes (marks line column' 0 bytes))
    → CutBy line column (c ∷ rest) (marks line column 0 (c ∷ rest))
unfolding CutBy
cut_step line column c rest ih =
    elim (cases_Bool (is_blank c)) [
      | inl h ↦ λ none.
          let e = marks-blank line column bytes (omega arith) h in
          subst (λ (ms : List Mark). Cut line column bytes (tokens_of ms)) (sym e)
          (blank h (ih (column + 1) rest (omega arith) (subst (λ (ms : List Mark). faults_of ms ≡ []) e none)))
      | inr h ↦ by_lexeme h (lexeme_at bytes) refl
    ] where
      bytes : List ℕ
      bytes = c ∷ rest

      by_lexeme : is_blank c ≡ false → (r : Result Lexeme Fault) → lexeme_at bytes ≡ r → faults_of (marks line column 0 bytes) ≡ [] → Cut line column bytes (tokens_of (marks line column 0 bytes))
      by_lexeme h (Ok found) e none =
          let wide = token_some bytes found e in
          let longest = is_longest bytes found e in
          let left = marks line (column + found.width) 0 (drop found.width bytes) in
          let m = marks-token line column bytes found (omega arith) h e wide in
          let len : length (take found.width bytes) ≡ found.width = length-take-le found.width bytes longest.within in
          let others : Cut line (column + found.width) (drop found.width bytes) (tokens_of left) =
          ih (column + found.width) (drop found.width bytes) (omega (arith, length-drop found.width bytes)) (subst (λ (ms : List Mark). faults_of ms ≡ []) m none) in
          subst (λ (ms : List Mark). Cut line column bytes (tokens_of ms)) (sym m)
          (token found (take found.width bytes) (drop found.width bytes) (sym (take-append-drop found.width bytes)) (sym len) h e
          (subst (λ (n : ℕ). Cut line (column + n) (drop found.width bytes) (tokens_of left)) (sym len) others))
      by_lexeme h (Err f) e none =
          let m = marks-fault line column bytes f (omega arith) h e in
          absurd (some_fault (refusal_at f line column) m.0 (subst (λ (ms : List Mark). faults_of ms ≡ []) m.1 none))

cut_within : (n line column : ℕ) (bytes : List ℕ) → length bytes ≤ n → CutBy line column bytes (marks line column 0 bytes)
unfolding CutBy
cut_within n line column [] le = λ _. rw (marks-none line column) nothing
cut_within zero line column (c ∷ rest) le = absurd (omega arith)
cut_within (suc n) line column (c ∷ rest) le = cut_step line column c rest (λ column' bytes le'. cut_within n line column' bytes (omega arith))

pub is_cut : (line column : ℕ) (bytes : List ℕ) → faults_of (marks line column 0 bytes) ≡ [] → Cut line column bytes (tokens_of (marks line column 0 bytes))
unfolding CutBy
is_cut line column bytes none = cut_within (length bytes) line column bytes (omega arith) none

-- ---- and back

pub only_cut : {line column : ℕ} {bytes : List ℕ} {tokens : List Token} → Cut line column bytes tokens
    → (faults_of (marks line column 0 bytes) ≡ []) × (tokens_of (marks line column 0 bytes) ≡ tokens)
only_cut {line} {column} nothing = rw (marks-none line column) (refl, refl)
only_cut {line} {column} (blank {c} {bytes} h k) = rw (marks-blank line column (c ∷ bytes) (omega arith) h) (only_cut k)
only_cut {line} {column} {bytes} (token found spelling rest whole wide front e k) =
    let some = token_some bytes found e in
    let long : 0 < length bytes = omega (arith, ap length whole, length-append spelling rest) in
    let ih = only_cut k in
    let m = marks-token line column bytes found long front e some in
    let left : drop found.width bytes ≡ rest = rw (wide, whole) (drop_at spelling rest (length spelling) refl) in
    rw (m, left, wide) (ih.0, ap (λ (ts : List Token). token_at found line column ∷ ts) ih.1)
