-- What is asked for, together with what its map means: what it does, and that it can be done.
use Rattle.std.specs.Prelude.{◌≡◌, [], map}
use Rattle.hpf_frame.specs.FrameFile.{version_one, elements, AreExtents}
use Rattle.hpf_gen.specs.Generated.{generated}
use Rattle.hpf_report.specs.LocalText.{local_text}
use Rattle.hpf_report.specs.OwnersText.{owners_text}
use Rattle.hpf_syntax.specs.Plain.{item_tree}
use Rattle.hpf_syntax.specs.Canonical.{canonical}
use Rattle.hpf_syntax.specs.Parsed.{IsParsed}
use Rattle.hpf_request.specs.declared.request.Request.{Request}
use Rattle.hpf_request.specs.declared.request.Request.TheVariants as request
use Rattle.hpf_request.specs.CountsText.{counts_text}
use Rattle.hpf_request.specs.Deed.{Deed, Print, Compose, Stream}
use Rattle.hpf_request.specs.Parts.{HaveTaken, places}
use Rattle.hpf_request.specs.Pipeline.{flow_of}

-- what a request of the program does
abbrev pub deed_of : Request → Deed
deed_of (request.Show items) = Print (canonical (map item_tree items)) []
deed_of (request.Check counts) = Print (counts_text counts) []
deed_of (request.Owners mapping) = Print (owners_text mapping) []
deed_of (request.Local owned held) = Print (local_text owned.indices held.indices) []
deed_of (request.Make extents frames seed) = Compose (generated version_one extents.items seed frames)
deed_of (request.Run form) = Stream (flow_of (record { extents = form.extents.items; parts = places form.parts.items }))

-- the request can be carried out: statements are those of some text, parts are of one array, extents are those of one, and
-- a form is within its limits and has no mark yet
abbrev pub IsMet : Request → Type 0
IsMet (request.Show items) = IsParsed (map item_tree items)
IsMet (request.Check counts) = Unit {0}
IsMet (request.Owners mapping) = Unit {0}
IsMet (request.Local owned held) = owned.rank ≡ held.rank
IsMet (request.Make extents frames seed) = AreExtents extents.items
IsMet (request.Run form) = HaveTaken form.extents.items form.parts.items []
    × (form.elements ≡ elements form.extents.items)
