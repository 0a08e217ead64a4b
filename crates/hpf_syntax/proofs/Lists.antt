-- Reading the elements of a list one after the other, as a loop does.
use Rattle.std.proofs.Common.{◌≡◌, ℕ, zero, suc, ◌-◌, ◌+◌, ◌≤◌, ◌<◌, true, false, List, [], ◌∷◌, ◌++◌, Result, Ok, Err, refl, sym, ◌∙◌, arith}
use Rattle.hpf_lex.specs.declared.token.Token.{Token}
use Rattle.hpf_syntax.specs.declared.stop.BadToken.{BadToken}
use Rattle.hpf_syntax.specs.declared.stop.Stop.{Stop}
use Rattle.hpf_syntax.specs.declared.stop.Stop.TheVariants as stop
use Rattle.hpf_syntax.specs.declared.terminal.Terminal.TheVariants as terminal
use Rattle.hpf_syntax.specs.Terminal.{begins}
use Rattle.hpf_syntax.specs.Reading.{◌>>=◌, Reading, Fails, rest_of, more_at}

-- what one more element leaves to read
pub more_once : {A : Type 0} (read : Reading A) (n : ℕ) (list : List A) (tokens : List Token) → begins terminal.Comma tokens ≡ true → more_at read (suc n) list tokens ≡ (read (rest_of tokens) >>= λ next. more_at read n (list ++ next.0 ∷ []) next.1)
unfolding more_at
more_once read n list tokens comma = rw comma refl

pub more_goes_on : {A : Type 0} (read : Reading A) (n i : ℕ) (list : List A) (tokens : List Token) (x : A) (after : List Token) (total : Result (List A × List Token) BadToken) → i < n → begins terminal.Comma tokens ≡ true → read (rest_of tokens) ≡ Ok (x, after) → more_at read (n - i) list tokens ≡ total → more_at read (n - (i + 1)) (list ++ x ∷ []) after ≡ total
more_goes_on read n i list tokens x after total lt comma next so_far =
    let k : n - i ≡ suc (n - (i + 1)) = omega arith in
    let one : more_at read (n - i) list tokens ≡ more_at read (n - (i + 1)) (list ++ x ∷ []) after = rw k (more_once read (n - (i + 1)) list tokens comma ∙ rw next refl) in
    sym one ∙ so_far

pub more_fails : {A : Type 0} (e : Stop) (read : Reading A) (n i : ℕ) (list : List A) (tokens : List Token) (total : Result (List A × List Token) BadToken) → i < n → begins terminal.Comma tokens ≡ true → Fails e (read (rest_of tokens)) → more_at read (n - i) list tokens ≡ total → Fails e total
more_fails (stop.Memory e) read n i list tokens total lt comma bad so_far = tt
more_fails (stop.Bad b) read n i list tokens total lt comma bad so_far =
    let k : n - i ≡ suc (n - (i + 1)) = omega arith in
    let one : more_at read (n - i) list tokens ≡ Err b = rw k (more_once read (n - (i + 1)) list tokens comma ∙ rw bad refl) in
    sym so_far ∙ one

none_left : {A : Type 0} (read : Reading A) (list : List A) (tokens : List Token) → more_at read 0 list tokens ≡ Ok (list, tokens)
unfolding more_at
none_left read list tokens = refl

pub more_ends : {A : Type 0} (read : Reading A) (n i : ℕ) (list : List A) (tokens : List Token) (total : Result (List A × List Token) BadToken) → n ≤ i → more_at read (n - i) list tokens ≡ total → total ≡ Ok (list, tokens)
more_ends read n i list tokens total le so_far =
    let k : n - i ≡ 0 = omega arith in
    sym so_far ∙ rw k (none_left read list tokens)

pub more_stops : {A : Type 0} (read : Reading A) (m : ℕ) (list : List A) (tokens : List Token) → begins terminal.Comma tokens ≡ false → more_at read m list tokens ≡ Ok (list, tokens)
unfolding more_at
more_stops read zero list tokens none = refl
more_stops read (suc m) list tokens none = rw none refl
