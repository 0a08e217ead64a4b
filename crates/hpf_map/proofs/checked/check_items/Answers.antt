use Rattle.std.proofs.Common.{◌≡◌, List, ◌++◌, map, Option, ap, ◌∙◌}
use Rattle.std.specs.List.{flat_map}
use Rattle.hpf_lex.specs.declared.refusal.MapRefusal.{MapRefusal}
use Rattle.hpf_syntax.specs.Plain.{item_tree}
use Rattle.hpf_map.specs.Alignments.{align_breaches}
use Rattle.hpf_map.specs.Dealing.{formats_breaches}
use Rattle.hpf_map.specs.Distributions.{distribute_breaches}
use Rattle.hpf_map.specs.Found.{least_with}
use Rattle.hpf_map.specs.Layers.{names_of}
use Rattle.hpf_map.specs.Paired.{each_with}
use Rattle.hpf_map.specs.Pipeline.{pipeline_breaches}
use Rattle.hpf_map.specs.Refusal.{all_breaches}
use Rattle.hpf_map.specs.Shadows.{shadows_breaches, first_shadow}
use Rattle.hpf_map.specs.Declarations.{threaded}
use Rattle.hpf_map.specs.Lines.{all_lines}
use Rattle.hpf_map.specs.Stages.{nothing_behind, after_line, line_breaches, stages_breaches}
use Rattle.hpf_map.specs.Ways.{ways_of, mapped_twice_breaches, first_uses, cycle_breaches}
use Rattle.hpf_map.proofs.FoundLemmas.{least_with-append}
use Rattle.hpf_map.proofs.checked.check_items.Goals as goal

-- one layer more, whose breaches are these
taken : (h0 h1 h2 : Option MapRefusal) (xs ys zs : List MapRefusal) → h1 ≡ least_with h0 xs → h2 ≡ least_with h1 ys → ys ≡ zs → h2 ≡ least_with h0 (xs ++ zs)
taken h0 h1 h2 xs ys zs before step same = step ∙ ap (least_with h1) same ∙ ap (λ h. least_with h zs) before ∙ least_with-append h0 xs zs

pub returns-clause-checked : goal.returns-clause-checked
returns-clause-checked c =
    let items = map item_tree c.args.items.now in
    let s = c.in_ok-statements.ensures in record {
      names = s.names;
      said = s.said;
      widths = s.widths;
      shadow_widths = s.shadows;
      lines = s.lines;
      ways = c.in_ok-mapped.ensures.ways ∙ ap (λ ns. ways_of ns items) s.names;
      first_shadows = λ n. c.in_ok-first_shadows.ensures.first n ∙ ap (λ ns. first_shadow ns items n) s.names;
    }

pub returns-clause-breaches : goal.returns-clause-breaches
unfolding all_breaches stages_breaches
returns-clause-breaches c =
    let items = map item_tree c.args.items.now in
    let named = c.in_ok-statements.ensures.names in
    taken _ _ _ _ _ _
    (taken _ _ _ _ _ _
    (taken _ _ _ _ _ _
    (taken _ _ _ _ _ _
    (taken _ _ _ _ _ _
    (taken _ _ _ _ _ _
    (taken _ _ _ _ _ _
    (taken _ _ _ _ _ _ c.in_ok-statements.ensures.breaches c.in_ok-test_aligns.ensures
    (ap (λ ns. each_with (align_breaches ns) items c.as_slice.result.now) named ∙ ap (each_with (align_breaches (names_of items)) items) (c.as_slice.ensures.value ∙ c.in_ok-statements.ensures.said)))
    c.test_distributes.ensures (ap (λ ns. flat_map (distribute_breaches ns) items) named))
    c.test_all_formats.ensures
    (ap (λ ns. each_with (formats_breaches ns) items c.as_slice-2.result.now) named ∙ ap (each_with (formats_breaches (names_of items)) items) (c.as_slice-2.ensures.value ∙ c.in_ok-statements.ensures.widths)))
    c.in_ok-mapped.ensures.breaches (ap (λ ns. mapped_twice_breaches ns items) named))
    c.in_ok-test_cycles.ensures
    (ap (λ w. flat_map (cycle_breaches w) c.as_slice-3.result.now) (c.in_ok-mapped.ensures.ways ∙ ap (λ ns. ways_of ns items) named)
    ∙ ap (flat_map (cycle_breaches (ways_of (names_of items) items))) (c.as_slice-3.ensures.value ∙ c.in_ok-mapped.ensures.first ∙ ap (λ ns. first_uses ns items) named)))
    c.in_ok-test_pipeline.ensures (ap (λ ns. pipeline_breaches c.args.need ns items) named))
    c.in_ok-first_shadows.ensures.breaches (ap (λ ns. shadows_breaches ns items) named))
    c.test_lines.ensures
    (ap (λ ls. threaded after_line (line_breaches c.in_ok-statements.statements.names) nothing_behind ls) (c.as_slice-4.ensures.value ∙ c.in_ok-statements.ensures.lines)
    ∙ ap (λ ns. threaded after_line (line_breaches ns) nothing_behind (all_lines items)) named)
