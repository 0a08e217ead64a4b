-- What the options of a parse say.
use Rattle.std.proofs.Common.{◌≡◌, ◌<◌, ◌==◌, ◌&&◌, ◌||◌, ◌∙◌, ℕ, Bool, true, false, not, zero, suc, List, [], ◌∷◌, map, length, codes, Option, Some, None, inl, inr, refl, sym, ap, subst, arith}
use Rattle.std.specs.Prelude.{pos, slice_get, option_map, option_and_then}
use Rattle.std.specs.List.{All, slice_index_or, list_all}
use Rattle.std.specs.Borrow.{Bor}
use Rattle.std.specs.Str.{bytes_eq}
use Rattle.std.proofs.lemmas.Bool.{and_parts, both_ways, cases_lt, eqb-true, not-true}
use Rattle.std.proofs.lemmas.Slice.Eq.{bytes_eq-Decides}
use Rattle.clap.specs.Lexer.{without_minus}
use Rattle.clap.specs.Facts.{Entry, EntryPasses, HasReading, PassesArg, ValuesPass, parser_of_value}
use Rattle.clap.specs.Simple.{has_plain_fields}
use Rattle.clap.specs.Walk.{is_empty, is_simple_arg}
use Rattle.clap.specs.Built.{IsAuto, SameRules}
use Rattle.clap.specs.Words.{Accepts, App, IsParsedFrom, IsSignedIn, Rule, Text, app_of, args_of, found_of, groups_of, matched_of, parser_of, read_as, reading_of, rule_of}
use Rattle.clap.specs.declared.builder.arg.Arg.{Arg}
use Rattle.clap.specs.declared.builder.command.Command.{Command}
use Rattle.clap.specs.declared.builder.command.Command.TheOpen.{Command-F}
use Rattle.clap.specs.declared.builder.command.Command.TheViews.{out-Command}
use Rattle.clap.specs.declared.builder.value_parser.Reading.{Reading}
use Rattle.clap.specs.declared.builder.value_parser.Reading.TheVariants as reading
use Rattle.clap.specs.declared.builder.value_parser.ValueParser.{ValueParser}
use Rattle.clap.specs.declared.builder.value_parser.ValueParser.TheVariants as values
use Rattle.clap.specs.declared.parser.matches.ArgMatches.{ArgMatches}
use Rattle.clap.specs.declared.parser.matches.Found.{Found}
use Rattle.clap.specs.declared.parser.matches.MatchedArg.{MatchedArg}
use Rattle.clap.proofs.CallerLemmas.{entry_by_id}
use Rattle.hpf_words.specs.Command.{hpfturn, numbers}
use Rattle.hpf_words.specs.Given.{HasNumbers, Says, SaysIn}
use Rattle.hpf_words.proofs.Numbers.{says}

-- ---- tests of rules

each_passes : (test : Rule → Bool) (args : List Arg) → list_all test (map rule_of args) ≡ true
    → (k : ℕ) (d : Arg) → k < length args → test (rule_of (slice_index_or args k d)) ≡ true
each_passes test [] passed k d lt = absurd (omega arith)
each_passes test (a ∷ rest) passed zero d lt = (and_parts _ _ passed).0
each_passes test (a ∷ rest) passed (suc k) d lt = each_passes test rest (and_parts _ _ passed).1 k d (omega arith)

is_range : ℕ → ℕ → Option ValueParser → Bool
is_range least most (Some (values.Signed (pos a) (pos b))) = (a == least) && (b == most)
is_range least most _ = false

range_of : (least most : ℕ) (parser : Option ValueParser) → is_range least most parser ≡ true → parser ≡ Some (numbers least most)
unfolding is_range
range_of least most (Some (values.Signed (pos a) (pos b))) passed =
    let ends = and_parts (a == least) (b == most) passed in
    rw (eqb-true a least ends.0, eqb-true b most ends.1) refl
range_of least most parser passed = absurd cc

-- the rule is of another argument, or takes the numbers of this option
is_option : Text → ℕ → ℕ → Rule → Bool
is_option id least most r = not (bytes_eq r.id id) || is_range least most r.parser

-- no argument has this id but those of the command's own
is_own : Text → Bool
is_own id = not (length id == 0) && (not (bytes_eq (codes "help") id) && not (bytes_eq (codes "version") id))

empty_of : {X : Type 0} (xs : List X) → (length xs == 0) ≡ true → xs ≡ []
empty_of [] e = refl
empty_of (x ∷ xs) e =
    let none : length (x ∷ xs) ≡ 0 = eqb-true _ _ e in
    absurd (omega arith)

-- a plain command has no group and no global argument, and a simple argument names no group
groups_none : (c : Command-F Command) → has_plain_fields c ≡ true → c.groups.items ≡ []
groups_none c plain = empty_of c.groups.items (and_parts (is_empty c.groups.items) _ plain).0

globals_none : (c : Command-F Command) → has_plain_fields c ≡ true → c.has_globals ≡ false
globals_none c plain =
    let rest = (and_parts (is_empty c.groups.items) _ plain).1 in
    not-true c.has_globals (and_parts (not c.has_globals) _ (and_parts (not c.allow_external_subcommands) _ rest).1).0

names_none : (a : Arg) → is_simple_arg a ≡ true → a.groups.items ≡ []
names_none a simple =
    let rest = (and_parts (is_empty a.overrides.items) _ simple).1 in
    empty_of a.groups.items (and_parts (is_empty a.groups.items) _ (and_parts (is_empty a.default_vals_ifs.items) _ rest).1).0

-- its own id is none of those that none or others have
own_parts : (id : Text) → is_own id ≡ true → (id ≡ [] → ⊥) × (bytes_eq (codes "help") id ≡ true → ⊥) × (bytes_eq (codes "version") id ≡ true → ⊥)
unfolding is_own
own_parts id own =
    let first = and_parts (not (length id == 0)) _ own in
    let rest = and_parts (not (bytes_eq (codes "help") id)) (not (bytes_eq (codes "version") id)) first.1 in (
      λ empty. both_ways _ (not-true (length id == 0) first.0) (ap (λ (t : Text). length t == 0) empty),
      λ same. both_ways _ (not-true _ rest.0) same,
      λ same. both_ways _ (not-true _ rest.1) same,
    )

-- ---- an option of a parse

-- each argument with this id takes these numbers
Only : Command → Text → ℕ → ℕ → Type 0
Only c id least most = (k : ℕ) (a : Arg) → k < length (args_of c) → slice_index_or (args_of c) k a ≡ a → bytes_eq a.id.now id ≡ true
    → parser_of a ≡ numbers least most

of_values : (c : Command) (id : Text) (least most : ℕ) → Only c id least most → (how : Reading) (vs : List (Bor Text))
    → All (λ v. PassesArg c id v.now) vs → HasReading c id how
    → (text : Text) → option_map (λ s. read_as how s.now) (slice_get vs 0) ≡ Some text → Says least most text
unfolding Only
of_values c id least most only how [] all reads text e = absurd cc
of_values c id least most only how (v ∷ vs) all reads text e =
    let pass : PassesArg c id v.now = all 0 v (omega arith) in
    let taken = only pass.0 pass.1 pass.2 pass.3 pass.4.0 in
    let accepted : IsSignedIn (pos least) (pos most) v.now = subst (λ (q : ValueParser). Accepts pass.1.ignore_case q v.now) taken pass.4.1 in
    let is : how ≡ reading.WithoutMinus = sym reads.4.1 ∙ ap reading_of (only reads.0 reads.1 reads.2 reads.3 reads.4.0) in
    let first : Some (without_minus v.now) ≡ Some text = rw is at e in
    let same : without_minus v.now ≡ text = cc in
    subst (Says least most) same (says least most v.now accepted)

-- what an entry with this id gives
at_entry : (c : Command) (id : Text) (least most : ℕ) → Only c id least most → groups_of c ≡ [] → (id ≡ [] → ⊥)
    → (e : Entry) → e.0.now ≡ id → EntryPasses c e
    → (text : Text) → option_map (λ s. read_as e.1.reading s.now) (slice_get e.1.vals.items 0) ≡ Some text → Says least most text
at_entry c id least most only no_groups named e key pass =
    let no_group : e.1.is_group ≡ true → ⊥ = λ g. elim (pass.3 g) [
      | inl empty ↦ named (sym key ∙ empty)
      | inr lots ↦
          let bad : 0 < 0 = rw no_groups at lots in
          absurd (omega arith)
    ] in
    let all : All (λ v. PassesArg c id v.now) e.1.vals.items = elim pass.0 [
      | inl g ↦ absurd (no_group g)
      | inr vals ↦ subst (λ (w : Text). All (λ v. PassesArg c w v.now) e.1.vals.items) key vals
    ] in
    let reads : HasReading c id e.1.reading = elim pass.4 [
      | inl g ↦ absurd (no_group g)
      | inr h ↦ subst (λ (w : Text). HasReading c w e.1.reading) key h
    ] in
    of_values c id least most only e.1.reading e.1.vals.items all reads

first_text : MatchedArg → Option Text
first_text x = option_map (λ s. read_as x.reading s.now) (slice_get x.vals.items 0)

says_in : (c : Command) (f : Found) (id : Text) (least most : ℕ) → ValuesPass c f → groups_of c ≡ [] → (id ≡ [] → ⊥) → Only c id least most
    → SaysIn f id least most
unfolding first_text
says_in c f id least most passed no_groups named only = λ text e. go text (matched_of f id) refl e
  where
    go : (text : Text) (o : Option MatchedArg) → matched_of f id ≡ o → option_and_then first_text o ≡ Some text → Says least most text
    go text None found e = absurd cc
    go text (Some x) found e =
        let got = entry_by_id (EntryPasses c) f.entries.items id x passed found in
        at_entry c id least most only no_groups named got.0 ((bytes_eq-Decides got.0.0.now id).0 got.2) got.3 text (ap first_text got.1 ∙ e)

-- ---- the options of the command

pub has_numbers : (command : Command) (m : ArgMatches) → app_of command ≡ hpfturn → IsParsedFrom command m → HasNumbers (found_of m)
unfolding Only is_option is_own is_range
has_numbers command m is p = record {
  processor = option (codes "proc") 0 63 refl refl;
  stage = option (codes "stage") 0 15 refl refl;
  frames = option (codes "frames") 0 4294967295 refl refl;
  seed = option (codes "seed") 0 4294967295 refl refl;
  workers = option (codes "workers") 1 64 refl refl;
}
  where
    rules : map rule_of (args_of command) ≡ hpfturn.top.rules
    rules = ap (λ (a : App). a.top.rules) is

    plain : has_plain_fields (out-Command command) ≡ true
    plain = ap (λ (a : App). a.top.is_plain) is

    no_globals : (out-Command command).has_globals ≡ false
    no_globals = globals_none (out-Command command) plain

    no_groups : groups_of p.built ≡ []
    no_groups =
        (p.from.same_groups (λ k d lt. names_none (slice_index_or (args_of command) k d) (each_passes (λ r. r.is_simple) (args_of command) (ap (list_all (λ (r : Rule). r.is_simple)) rules) k d lt))).1
        ∙ groups_none (out-Command command) plain

    option : (id : Text) (least most : ℕ) → list_all (is_option id least most) hpfturn.top.rules ≡ true → is_own id ≡ true → SaysIn (found_of m) id least most
    option id least most tested own =
        says_in p.built (found_of m) id least most (p.parsed (p.from.globals ∙ no_globals)).values no_groups (own_parts id own).0 (λ k a lt at same. only k a lt at same)
      where
        only : (k : ℕ) (a : Arg) → k < length (args_of p.built) → slice_index_or (args_of p.built) k a ≡ a → bytes_eq a.id.now id ≡ true
            → parser_of a ≡ numbers least most
        only k a lt at same = elim (cases_lt k (length (args_of command))) [
          | inl under ↦
              let kept : SameRules (slice_index_or (args_of command) k a) a =
              subst (λ (w : Arg). SameRules (slice_index_or (args_of command) k a) w) at (p.from.kept k a under).1 in
              let tests = each_passes (is_option id least most) (args_of command) (ap (list_all (is_option id least most)) rules ∙ tested) k a under in
              let its : bytes_eq (slice_index_or (args_of command) k a).id.now id ≡ true = rw (← kept.id) same in
              let takes = rw its at tests in
              ap parser_of_value (kept.parser (numbers least most) (range_of least most _ takes))
          | inr over ↦
              let auto = subst IsAuto at (p.from.extra k a over lt) in
              absurd (elim auto [
                | inl help ↦ (own_parts id own).1 (subst (λ (t : Text). bytes_eq t id ≡ true) help same)
                | inr version ↦ (own_parts id own).2 (subst (λ (t : Text). bytes_eq t id ≡ true) version same)
              ])
        ]
