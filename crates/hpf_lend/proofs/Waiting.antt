-- An end that has found nothing is as it was, and will look.
use Rattle.std.proofs.Common.{◌≡◌, false, []}
use Rattle.hpf_lend.specs.Lending.{Lending}
use Rattle.hpf_lend.specs.Borrowing.{Borrowing}
use Rattle.hpf_lend.specs.Calls.{LenderWaits, NothingHome, BorrowerWaits, NothingCame}

pub record LooksLender (x z : Lending) : Type 0 where
  pub size : z.size ≡ x.size
  pub shelf : z.shelf ≡ x.shelf
  pub out : z.out ≡ x.out
  pub sent : z.sent ≡ x.sent
  pub kept : z.kept ≡ x.kept
  pub taken : z.taken ≡ x.taken
  pub known : z.known ≡ x.known
  pub strayed : z.strayed ≡ x.strayed
  pub fresh : z.fresh ≡ false
  pub forward : z.forward ≡ x.forward
  pub back : z.back ≡ x.back

looks_lender : (x z : Lending) → LooksLender x z → z ≡ record x { fresh = false }
looks_lender x z l = λ i. record {
  size = l.size i;
  shelf = l.shelf i;
  out = l.out i;
  sent = l.sent i;
  kept = l.kept i;
  taken = l.taken i;
  known = l.known i;
  strayed = l.strayed i;
  fresh = l.fresh i;
  forward = l.forward i;
  back = l.back i;
}

pub lender_finds_nothing : (x y z : Lending) → x ≡ y → x.known ≡ [] → LooksLender x z → LenderWaits y z
lender_finds_nothing x y z e none l = rw (← e) (NothingHome none (looks_lender x z l))

pub record LooksBorrower (x z : Borrowing) : Type 0 where
  pub buffers : z.buffers ≡ x.buffers
  pub received : z.received ≡ x.received
  pub known : z.known ≡ x.known
  pub hand : z.hand ≡ x.hand
  pub returned : z.returned ≡ x.returned
  pub kept : z.kept ≡ x.kept
  pub fresh : z.fresh ≡ false
  pub forward : z.forward ≡ x.forward
  pub back : z.back ≡ x.back

looks_borrower : (x z : Borrowing) → LooksBorrower x z → z ≡ record x { fresh = false }
looks_borrower x z l = λ i. record {
  buffers = l.buffers i;
  received = l.received i;
  known = l.known i;
  hand = l.hand i;
  returned = l.returned i;
  kept = l.kept i;
  fresh = l.fresh i;
  forward = l.forward i;
  back = l.back i;
}

pub borrower_finds_nothing : (x y z : Borrowing) → x ≡ y → x.known ≡ [] → LooksBorrower x z → BorrowerWaits y z
borrower_finds_nothing x y z e none l = rw (← e) (NothingCame none (looks_borrower x z l))
