use Rattle.hpf_request.proofs.Placed.{within_push, places_push}
use Rattle.hpf_request.proofs.form.part_of.Goals as goal

pub loop-k-preserved : goal.loop-k-preserved
loop-k-preserved c = rw c.in_ok-push.ensures (record {
  unmarked = c.loop-k.invariant.unmarked;
  within = within_push _ _ _ c.loop-k.invariant.within c.place_of.ensures.some c.place_of.ensures.few;
  places = places_push _ _ _ c.loop-k.k _ _ c.loop-k.invariant.places c.nth.ensures c.place_of.ensures.place;
})
