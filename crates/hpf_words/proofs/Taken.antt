-- What an answer of `clap` says of the words.
use Rattle.std.proofs.Common.{◌≡◌, ◌∙◌, true, List, [], Ok, Err, inl, inr, refl, sym, ap, subst}
use Rattle.clap.proofs.OnLiterals.{clap_on_literals}
use Rattle.clap.specs.Words.{App, FailsBy, HasKind, HasMatchesOf, Text, app_of, fault_of, found_of, is_simple, is_simple_and_free, kind_of, rows_of}
use Rattle.clap.specs.declared.error.Error.{Error}
use Rattle.clap.specs.declared.builder.command.Command.{Command}
use Rattle.clap.specs.declared.parser.matches.ArgMatches.{ArgMatches}
use Rattle.hpf_words.specs.Command.{AreTaken, found_in, hpfturn}
use Rattle.hpf_words.specs.Refusal.{words_error}
use Rattle.hpf_words.specs.declared.refusal.WordsError.TheVariants.{Refused}

plain_command : is_simple_and_free hpfturn ≡ true
unfolding clap_on_literals
plain_command = refl

simple_command : is_simple hpfturn ≡ true
unfolding clap_on_literals
simple_command = refl

-- words that were read are taken
pub are_taken : (command : Command) (words : List Text) (m : ArgMatches) → app_of command ≡ hpfturn
    → (is_simple_and_free (app_of command) ≡ true → FailsBy {T = ArgMatches} (fault_of (app_of command) words) (Ok m)) → AreTaken words
unfolding AreTaken
are_taken command words m is kinds = ap (λ (a : App). fault_of a words) (sym is) ∙ kinds (ap is_simple_and_free is ∙ plain_command)

-- and what was found is what is found in them
pub found_there : (command : Command) (words : List Text) (m : ArgMatches) → app_of command ≡ hpfturn
    → HasMatchesOf (app_of command) words m → rows_of (found_of m) ≡ found_in words
unfolding found_in
found_there command words m is has = (subst (λ (a : App). HasMatchesOf a words m) is has simple_command).0

-- words that were refused, and not for want of memory, are not taken
pub not_taken : (command : Command) (words : List Text) (e : Error) → app_of command ≡ hpfturn
    → (is_simple_and_free (app_of command) ≡ true → FailsBy {T = ArgMatches} (fault_of (app_of command) words) (Err e))
    → words_error (kind_of e) ≡ Refused → ¬ AreTaken words
unfolding AreTaken
not_taken command words e is kinds refused = λ taken.
    let has : HasKind [] e = subst (λ ks. HasKind ks e) (ap (λ (a : App). fault_of a words) is ∙ taken) (kinds (ap is_simple_and_free is ∙ plain_command)) in
    elim has [
      | inl memory ↦ let bad = rw memory at refused in absurd cc
      | inr among ↦ among
    ]
