-- What is found in the matches of a parse.
use Rattle.std.proofs.Common.{◌≡◌, ◌≤◌, ◌∙◌, ℕ, List, codes, Option, Some, None, sym, ap, subst, arith}
use Rattle.std.specs.Prelude.{option_map, unwrap_or}
use Rattle.clap.proofs.WalkLemmas.{one_text-rows}
use Rattle.clap.specs.Words.{Row, Text, first_of, one_of, one_text, rows_of}
use Rattle.clap.specs.declared.parser.matches.Found.{Found}
use Rattle.hpf_words.specs.declared.asked.Asked.{Asked}
use Rattle.hpf_words.specs.declared.asked.Asked.TheVariants.{Check, Show, Owners, Local, Plan, Run, Parts, Make, Trial}
use Rattle.hpf_words.specs.Given.{HasNumbers, SaysIn, given_of, number_of, said_by}
use Rattle.hpf_words.specs.Table.{IsInRange, IsMet, spelling}
use Rattle.hpf_words.specs.Words.{IsFound}

-- a number of an option lies in its range
number_in : (f : Found) (option : Text) (least most n : ℕ) → SaysIn f option least most → number_of option (rows_of f) ≡ Some n → (least ≤ n) × (n ≤ most)
number_in f option least most n says is = go (one_of option (rows_of f)) (one_text-rows f option) is
  where
    go : (text : Option Text) → one_text f option ≡ text → option_map said_by text ≡ Some n → (least ≤ n) × (n ≤ most)
    go None found is = absurd cc
    go (Some text) found is =
        let said = says text found in
        let same : said_by text ≡ n = cc in
        (subst (λ k. least ≤ k) same said.low, subst (λ k. k ≤ most) same said.high)

-- and so does a number of workers, where none is one
workers_in : (f : Found) → HasNumbers f → (w : Option ℕ) (workers : ℕ) → (given_of (rows_of f)).workers ≡ w → workers ≡ unwrap_or w 1 → (1 ≤ workers) × (workers ≤ 64)
workers_in f has None workers is one = (rw one (omega arith), rw one (omega arith))
workers_in f has (Some n) workers is same = rw same (number_in f _ 1 64 n has.workers is)

pub in_range : (f : Found) (asked : Asked) → HasNumbers f → IsMet asked (given_of (rows_of f)) → IsInRange asked
in_range f Check has met = tt
in_range f Show has met = tt
in_range f (Owners name) has met = tt
in_range f (Local name processor) has met = (number_in f _ 0 63 processor has.processor met.processor_is).1
in_range f Plan has met = tt
in_range f (Run workers) has met = workers_in f has met.0 workers met.1.workers_is met.2
in_range f (Parts stage workers) has met =
    let at = number_in f _ 0 15 stage has.stage met.1.stage_is in
    let many = workers_in f has met.0 workers met.1.workers_is met.2 in
    (at.1, many.0, many.1)
in_range f (Make frames seed) has met = tt
in_range f (Trial frames seed workers) has met = workers_in f has met.1 workers met.2.workers_is met.4

-- where the action or the map isn't there nothing is found
pub without_action : (rows : List Row) → None ≡ first_of (codes "ACTION") rows → (asked : Asked) (map : Text) → ¬ IsFound rows asked map
without_action rows none asked map = λ is. let bad = none ∙ is.action_is in absurd cc

pub without_map : (rows : List Row) → None ≡ first_of (codes "MAP") rows → (asked : Asked) (map : Text) → ¬ IsFound rows asked map
without_map rows none asked map = λ is. let bad = none ∙ is.map_is in absurd cc

pub found : (rows : List Row) (word map : Text) (asked : Asked) → Some word ≡ first_of (codes "ACTION") rows → Some map ≡ first_of (codes "MAP") rows
    → (word ≡ spelling asked) × IsMet asked (given_of rows) → IsFound rows asked map
found rows word map asked action_is map_is row = record {
  action_is = sym action_is ∙ ap Some row.0;
  map_is = sym map_is;
  met = row.1;
}

pub no_row : (rows : List Row) (word : Text) → Some word ≡ first_of (codes "ACTION") rows
    → ((asked : Asked) → word ≡ spelling asked → ¬ IsMet asked (given_of rows)) → (asked : Asked) (map : Text) → ¬ IsFound rows asked map
no_row rows word action_is none asked map = λ is.
    let both : Some word ≡ Some (spelling asked) = action_is ∙ is.action_is in
    let same : word ≡ spelling asked = cc in
    none asked same is.met
