-- Whatever begins with the first AUTH chunk of the rest begins with that of all.
use Rattle.std.proofs.Common.{length, Option}
use Rattle.dcsctp_borrowed.specs.Part.{Part, part_of}
use Rattle.dump_associations.specs.Authentication.{FirstAuth}
use Rattle.dump_associations.proofs.authentication.first_auth.Given as goal

abbrev pub invariant-loop-chunk : goal.invariant-loop-chunk
invariant-loop-chunk l =
    (auth : Option Part) → FirstAuth (part_of l.rest) auth → FirstAuth (part_of l.initial.chunks) auth

abbrev pub decreases-loop-chunk : goal.decreases-loop-chunk
decreases-loop-chunk l = length l.rest.bytes.now
