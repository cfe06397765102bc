use Rattle.std.proofs.Common.{◌≡◌, [], ◌∷◌, ◌++◌, Some, refl, sym, ap, ◌∙◌}
use Rattle.dump_capture.specs.Event.{Saw}
use Rattle.dump_capture.specs.IpFragment.{fragment_in, fragment_of, fragment_result}
use Rattle.dump_capture.proofs.Expanding.{fragment-last}
use Rattle.dump_capture.proofs.reassembler.Reassembler.look.Goals as goal

pub returns-in-Some : goal.returns-in-Some
returns-in-Some g c = λ xs was.
    let port = c.args.self.now.udp_port in
    let seen = c.args.seen.now in
    let link = c.args.link_type in
    let size = c.args.original_length in
    let bytes = c.args.bytes.now in
    let found : fragment_in port link size bytes ≡ Some (fragment_of c.in-Some.fragment) =
    sym c.fragment_in.ensures ∙ ap fragment_result c.in-Some.is in
    c.take-taken.ensures.handed (xs ++ Saw seen link size bytes ∷ []) xs link size bytes was refl
    (fragment-last port xs seen link size bytes (fragment_of c.in-Some.fragment) found)
