use Rattle.std.proofs.Common.{◌≡◌, [], All, length, map, refl, sym, ap, subst, ◌∙◌, arith}
use Rattle.std.specs.BTreeMap.{get}
use Rattle.std.specs.Ordering.{nat_cmp}
use Rattle.std.specs.List.{AllZip}
use Rattle.hpf_syntax.specs.Plain.{item_tree}
use Rattle.hpf_map.specs.declared.checked.Checked.{Checked}
use Rattle.hpf_map.specs.declared.mappings.Mapper.{Mapper}
use Rattle.hpf_map.specs.declared.program.Need.{Need}
use Rattle.hpf_map.specs.Checked.{IsChecked}
use Rattle.hpf_map.specs.Mapper.{IsMapper}
use Rattle.hpf_map.specs.Lines.{all_lines}
use Rattle.hpf_map.specs.Mappings.{CanMapAll, IsReadyLine, IsStageOf}
use Rattle.hpf_map.specs.Program.{IsProgram}
use Rattle.hpf_map.specs.Refusal.{all_breaches}
use Rattle.std.proofs.lemmas.List.{length-map}
use Rattle.hpf_map.proofs.ResolveLemmas.{line_arrays, lines_few, zip_long, program_is}
use Rattle.hpf_map.proofs.StageLemmas.{lines_ready}
use Rattle.hpf_map.proofs.ShadedLemmas.{shadows_are}
use Rattle.hpf_map.proofs.TurnLemmas.{in_turn}
use Rattle.hpf_map.proofs.resolution.program_of.Goals as goal

-- what mappings are made of, where it is all that is found of a text without a breach
mapper_is : (need : Need) (m : Mapper) (found : Checked) → all_breaches need (map item_tree m.items.now) ≡ [] → IsChecked (map item_tree m.items.now) found
    → m.names.now ≡ found.statements.names → m.widths.now ≡ found.statements.widths.items → m.shadows.now.widths ≡ found.statements.shadows
    → m.shadows.now.first ≡ found.first_shadows → CanMapAll (map item_tree m.items.now) m.landings.now → IsMapper m
mapper_is need m found none checked names widths given first can = record {
  names = names ∙ checked.names;
  widths = widths ∙ checked.widths;
  can = can;
  shadows = shadows_are need (map item_tree m.items.now) _ _ none (ap (λ v. v.items) given ∙ checked.shadow_widths) (λ n. ap (λ f. get nat_cmp f n) first ∙ checked.first_shadows n);
}

pub all_mappings-requires : goal.all_mappings-requires
all_mappings-requires c =
    record { ready = mapper_is c.args.need _ c.args.checked c.requires.none c.requires.checked refl c.as_slice.ensures.value refl refl (subst (CanMapAll (map item_tree c.args.items.now)) (sym c.as_slice-2.ensures.value) c.in_ok-landings.ensures) }

pub all_stages-requires-clause-ready : goal.all_stages-requires-clause-ready
all_stages-requires-clause-ready c =
    mapper_is c.args.need _ c.args.checked c.requires.none c.requires.checked refl c.as_slice.ensures.value refl refl (subst (CanMapAll (map item_tree c.args.items.now)) (sym c.as_slice-2.ensures.value) c.in_ok-landings.ensures)

pub all_stages-requires-clause-lines : goal.all_stages-requires-clause-lines
all_stages-requires-clause-lines c =
    let items = map item_tree c.args.items.now in
    subst (All (IsReadyLine items)) (sym (c.as_slice-3.ensures.value ∙ c.requires.checked.lines)) (lines_ready c.args.need items c.requires.none)

pub new-requires : goal.new-requires
new-requires c =
    let items = map item_tree c.args.items.now in
    let long = zip_long (IsStageOf items) c.as_slice-3.result.now c.in_ok-stages.stages.items c.in_ok-stages.ensures in
    let said = ap length (c.as_slice-3.ensures.value ∙ c.requires.checked.lines) in
    let same = length-map (all_lines items) (λ l. l.array) in
    let lines = ap length (line_arrays items) in
    let few = lines_few c.args.need items c.requires.none in
    record { few = omega (arith, long, said, same, lines, few) }

pub returns : goal.returns
returns c =
    let items = map item_tree c.args.items.now in
    let stages = c.in_ok-stages.stages.items in
    let zip : AllZip (IsStageOf items) (all_lines items) stages =
    subst (λ lines. AllZip (IsStageOf items) lines stages) (c.as_slice-3.ensures.value ∙ c.requires.checked.lines) c.in_ok-stages.ensures in
    subst (IsProgram items) (sym c.new.ensures)
    (program_is items _ _ _ _ c.requires.checked.names c.in_ok-mappings.ensures zip c.in_ok-counts.ensures
    (in_turn c.args.need items stages c.requires.none zip))
