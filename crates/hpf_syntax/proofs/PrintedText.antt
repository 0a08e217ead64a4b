-- The canonical text of a text's statements is read again as statements that are alike, and is their canonical text. No
-- other statements have it.
use Rattle.std.proofs.Common.{◌≡◌, ℕ, ◌+◌, ◌≤◌, Result, Ok, Err, List, [], ◌∷◌, ◌++◌, length, map, refl, sym, ap, subst, ◌∙◌}
use Rattle.std.specs.Prelude.{IfOk}
use Rattle.std.specs.List.{AllByRecursion, flat_map}
use Rattle.hpf_lex.specs.declared.refusal.MapRefusal.{MapRefusal}
use Rattle.hpf_lex.specs.declared.token.Token.{Token}
use Rattle.hpf_lex.specs.Follows.{IsProper}
use Rattle.hpf_lex.specs.OneLine.{OneLine, StandFrom, line_tokens, tokens_from, one_line_text}
use Rattle.hpf_lex.specs.Statement.{max_text, text_marks}
use Rattle.hpf_lex.specs.Text.{HasTokens, faults_of}
use Rattle.hpf_lex.specs.Text.{tokens_of as marked_tokens}
use Rattle.hpf_syntax.specs.Plain.{ItemTree}
use Rattle.hpf_syntax.specs.Rules.{Counted, tokens_of, IsShort}
use Rattle.hpf_syntax.specs.Grammar.{IsText}
use Rattle.hpf_syntax.specs.Canonical.{line_text, canonical}
use Rattle.hpf_syntax.specs.Placeless.{bare_item, AreAlike}
use Rattle.hpf_syntax.specs.Parsed.{IsParsed, IsReadAgain}
use Rattle.hpf_syntax.proofs.Lexing.{Lexing}
use Rattle.hpf_syntax.proofs.PrintedLine.{line_prints}
use Rattle.hpf_syntax.proofs.OneText.{one_list}
use Rattle.hpf_syntax.proofs.Cuts.{tokens_append, short_append, short_parts}
use Rattle.hpf_syntax.proofs.PrintedRoom.{all_front, all_back}
use Rattle.hpf_syntax.proofs.PrintedAlike.{alike_text}

-- lines that are read again from this line on, as statements that are alike
record Again (line : ℕ) (items : List ItemTree) : Type 0 where
  lines : List OneLine
  read : List ItemTree
  counted : List Counted
  text : IsText counted read
  short : IsShort counted
  alike : AreAlike read items
  tokens : tokens_of counted ≡ tokens_from line lines
  stand : StandFrom line lines
  spelled : one_line_text lines ≡ flat_map line_text items

ok_tokens : {us vs : List Token} → ◌≡◌ {A = Result (List Token) MapRefusal} (Ok us) (Ok vs) → us ≡ vs
ok_tokens e = cc

canonical_lines : (items : List ItemTree) → flat_map line_text items ≡ canonical items
unfolding canonical
canonical_lines items = refl

module _
    (laws : Lexing)
    (proper_tokens : (text : List ℕ) (tokens : List Token) → HasTokens text tokens → AllByRecursion IsProper tokens)
  where
    again : (items : List ItemTree) (cs : List Counted) → IsText cs items → AllByRecursion IsProper (tokens_of cs) → IsShort cs → (line : ℕ) → Again line items
    again [] cs e proper short line = record { lines = []; read = []; counted = []; text = refl; short = tt; alike = refl; tokens = refl; stand = tt; spelled = refl }
    again (x ∷ xs) cs (front, back, p, ps, e) proper short line =
        let proper' : AllByRecursion IsProper (tokens_of front ++ tokens_of back) =
        subst (λ (ts : List Token). AllByRecursion IsProper ts) (ap tokens_of e ∙ tokens_append front back) proper in
        let parts : IsShort front × IsShort back = short_parts 64 front back (subst IsShort e short) in
        let one = line_prints laws p (all_front IsProper (tokens_of front) (tokens_of back) proper') parts.0 line in
        let others = again xs back ps (all_back IsProper (tokens_of front) (tokens_of back) proper') parts.1 (line + 1) in
        record {
          lines = one.0 ∷ others.lines;
          read = one.1 ∷ others.read;
          counted = one.2 ++ others.counted;
          text = (one.2, others.counted, one.3, others.text, refl);
          short = short_append 64 one.2 others.counted one.4 others.short;
          alike = ap (λ (i : ItemTree). i ∷ map bare_item others.read) one.5 ∙ ap (λ (is : List ItemTree). bare_item x ∷ is) others.alike;
          tokens =
              tokens_append one.2 others.counted
              ∙ ap (λ (ts : List Token). ts ++ tokens_of others.counted) one.6 ∙ ap (λ (ts : List Token). line_tokens line one.0 ++ ts) others.tokens;
          stand = (one.7, others.stand);
          spelled =
              ap (λ (bytes : List ℕ). bytes ++ one_line_text others.lines) one.8 ∙ ap (λ (bytes : List ℕ). line_text x ++ bytes) others.spelled;
        }

    -- the statements of a text, written out from its first line on
    written : (trees : List ItemTree) → IsParsed trees → Again 1 trees
    written trees (text, (tokens, has, (cs, is, e, short))) =
        again trees cs is (subst (λ (ts : List Token). AllByRecursion IsProper ts) (sym e) (proper_tokens text tokens has)) short 1

    module _ (one_line_each : (ss : List OneLine) → StandFrom 1 ss → length (one_line_text ss) ≤ max_text → HasTokens (one_line_text ss) (tokens_from 1 ss)) where
      -- what is printed of the statements of a text is read again
      read_again : (printed : List ℕ) (trees : List ItemTree) → IsParsed trees → printed ≡ canonical trees → length printed ≤ max_text → IsReadAgain printed trees
      read_again printed trees parsed e fits =
          let a : Again 1 trees = written trees parsed in
          let spelled : one_line_text a.lines ≡ printed = a.spelled ∙ canonical_lines trees ∙ sym e in
          let fits' : length (one_line_text a.lines) ≤ max_text = subst (λ (bytes : List ℕ). length bytes ≤ max_text) (sym spelled) fits in
          let has : HasTokens printed (tokens_from 1 a.lines) =
          subst (λ (bytes : List ℕ). HasTokens bytes (tokens_from 1 a.lines)) spelled (one_line_each a.lines a.stand fits') in
          (a.read, (tokens_from 1 a.lines, has, (a.counted, a.text, a.tokens, a.short)), a.alike, alike_text a.read trees a.alike ∙ sym e)

      pub if_printed : {E : Type 0} (trees : List ItemTree) (r : Result (List ℕ) E) → IsParsed trees → IfOk r (λ printed. printed ≡ canonical trees) → IfOk r (λ printed. length printed ≤ max_text → IsReadAgain printed trees)
      if_printed trees (Ok printed) parsed e = read_again printed trees parsed e
      if_printed trees (Err e) parsed h = tt

    module _
        (one_line_each : (ss : List OneLine) → StandFrom 1 ss → (faults_of (text_marks (one_line_text ss)) ≡ []) × (marked_tokens (text_marks (one_line_text ss)) ≡ tokens_from 1 ss))
      where
        -- the tokens of a canonical text are what its bytes are cut into, however long it is
        cut_tokens : (trees : List ItemTree) (a : Again 1 trees) → tokens_of a.counted ≡ marked_tokens (text_marks (canonical trees))
        cut_tokens trees a =
            a.tokens ∙ sym (one_line_each a.lines a.stand).1 ∙ ap (λ (bytes : List ℕ). marked_tokens (text_marks bytes)) (a.spelled ∙ canonical_lines trees)

        -- statements with one canonical text are alike
        pub same_text : (a b : List ItemTree) → IsParsed a → IsParsed b → canonical a ≡ canonical b → AreAlike a b
        same_text a b parsed other e =
            let x : Again 1 a = written a parsed in
            let y : Again 1 b = written b other in
            let same : tokens_of x.counted ≡ tokens_of y.counted =
            cut_tokens a x ∙ ap (λ (bytes : List ℕ). marked_tokens (text_marks bytes)) e ∙ sym (cut_tokens b y) in
            let one : x.read ≡ y.read =
            one_list (tokens_of y.counted) x.read y.read (x.counted, x.text, same) (y.counted, y.text, refl) in
            sym x.alike ∙ ap (λ (items : List ItemTree). map bare_item items) one ∙ y.alike
