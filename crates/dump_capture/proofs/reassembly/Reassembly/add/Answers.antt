use Rattle.dump_capture.proofs.reassembly.Reassembly.add.Goals as goal

pub returns-in_err-add-clause-kept : goal.returns-in_err-add-clause-kept
returns-in_err-add-clause-kept c = λ fs all one. (c.take-packet.ensures.kept fs all).0

pub returns-in-Some-clause-kept : goal.returns-in-Some-clause-kept
returns-in-Some-clause-kept c = λ fs all one. (c.take-packet.ensures.kept fs all).0

pub returns-in-Some-clause-joined : goal.returns-in-Some-clause-joined
returns-in-Some-clause-joined c = λ fs all one. c.join.ensures fs
    (c.add.ensures.kept fs (c.take-packet.ensures.kept fs all).1 one)

pub returns-in_err-keep-clause-kept : goal.returns-in_err-keep-clause-kept
returns-in_err-keep-clause-kept c = λ fs all one.
    let taken = c.take-packet.ensures.kept fs all in
    c.keep.ensures fs taken.0 (c.add.ensures.kept fs taken.1 one)

pub returns-clause-kept : goal.returns-clause-kept
returns-clause-kept c = λ fs all one.
    let taken = c.take-packet.ensures.kept fs all in
    c.keep.ensures fs taken.0 (c.add.ensures.kept fs taken.1 one)
