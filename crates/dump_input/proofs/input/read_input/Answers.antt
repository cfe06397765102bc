use Rattle.std.proofs.Common.{◌≡◌, None, OnOk, IfErr, IfSome, subst}
use Rattle.dump_io.specs.Watched.{device_of}
use Rattle.dump_io.specs.Window.{left}
use Rattle.dump_capture.specs.PcapEvents as pcap
use Rattle.dump_capture.specs.PcapngEvents as pcapng
use Rattle.dump_capture.specs.Text as text
use Rattle.dump_capture.specs.declared.pcap_decoder.PcapDecoder.{PcapDecoder}
use Rattle.dump_input.specs.declared.input.InputFormat.TheVariants as format
use Rattle.dump_input.specs.declared.stop.Stop.TheVariants.{OutOfMemory}
use Rattle.dump_input.specs.Handed.{HandsAll, Stops}
use Rattle.dump_input.specs.Inputs.{format_of}
use Rattle.dump_input.proofs.InputFormats.{input_whole, input_stopped, stops_early}
use Rattle.dump_input.proofs.Steps.{IfErr-residual}
use Rattle.dump_input.proofs.input.read_input.Goals as goal

pub returns-in_err-format-clause-stopped : goal.returns-in_err-format-clause-stopped
returns-in_err-format-clause-stopped g c =
    IfErr-residual _ c.in_err-format.field-0.0 _ c.from_residual.ensures.1
    (stops_early g.P.Sink.handed c.args.form _ _ _ _ c.in_err-format.ensures.no_fault
    c.find_format.ensures.handed)

pub returns-in_err-decoder-in-Pcapng-clause-stopped :
    goal.returns-in_err-decoder-in-Pcapng-clause-stopped
returns-in_err-decoder-in-Pcapng-clause-stopped g c =
    IfErr-residual _ OutOfMemory _ c.from_residual-in_err-decoder-in-Pcapng.ensures.1
    (stops_early g.P.Sink.handed c.args.form _ _ _ OutOfMemory tt c.find_format.ensures.handed)

pub returns-in_err-decoder-in-Text-clause-stopped :
    goal.returns-in_err-decoder-in-Text-clause-stopped
returns-in_err-decoder-in-Text-clause-stopped g c =
    IfErr-residual _ OutOfMemory _ c.from_residual-in_err-decoder-in-Text.ensures.1
    (stops_early g.P.Sink.handed c.args.form _ _ _ OutOfMemory tt c.find_format.ensures.handed)

pub returns-in-Pcap-clause-whole : goal.returns-in-Pcap-clause-whole
returns-in-Pcap-clause-whole g c =
    input_whole g.P.Sink.handed c.args.form _ _ _ _ _ c.find_format.ensures.stream
    c.find_format.ensures.handed format.Pcap c.read_capture.result
    (subst (λ k. IfSome (left c.find_format.new.window
    (g.R.Read.remaining (device_of c.find_format.new.input))) (λ l. k ≡ format_of c.args.form l))
    c.in-Pcap.is c.in_ok-format.ensures.format)
    c.read_capture.ensures.whole

pub returns-in-Pcap-clause-stopped : goal.returns-in-Pcap-clause-stopped
returns-in-Pcap-clause-stopped g c =
    input_stopped g.P.Sink.handed c.args.form _ _ _ _ _ c.find_format.ensures.stream
    c.find_format.ensures.handed pcap.Item pcap.End PcapDecoder.FileHeader format.Pcap (λ fault all. all) (λ front. front)
    (subst (λ k. IfSome (left c.find_format.new.window
    (g.R.Read.remaining (device_of c.find_format.new.input))) (λ l. k ≡ format_of c.args.form l))
    c.in-Pcap.is c.in_ok-format.ensures.format) c.read_capture.result
    c.read_capture.ensures.stopped

pub returns-in_ok-decoder-in-Pcapng-clause-whole : goal.returns-in_ok-decoder-in-Pcapng-clause-whole
returns-in_ok-decoder-in-Pcapng-clause-whole g c =
    input_whole g.P.Sink.handed c.args.form _ _ _ _ _ c.find_format.ensures.stream
    c.find_format.ensures.handed format.Pcapng c.read_capture-in-Pcapng.result
    (subst (λ k. IfSome (left c.find_format.new.window
    (g.R.Read.remaining (device_of c.find_format.new.input))) (λ l. k ≡ format_of c.args.form l))
    c.in-Pcapng.is c.in_ok-format.ensures.format)
    (subst (λ x. OnOk c.read_capture-in-Pcapng.result (HandsAll pcapng.Item pcapng.End g.P.Sink.handed x
    (left c.find_format.new.window
    (g.R.Read.remaining (device_of c.find_format.new.input))) c.find_format.new.printer
    c.read_capture-in-Pcapng.new.printer None))
    c.in_ok-decoder-in-Pcapng.ensures c.read_capture-in-Pcapng.ensures.whole)

pub returns-in_ok-decoder-in-Pcapng-clause-stopped : goal.returns-in_ok-decoder-in-Pcapng-clause-stopped
returns-in_ok-decoder-in-Pcapng-clause-stopped g c =
    input_stopped g.P.Sink.handed c.args.form _ _ _ _ _ c.find_format.ensures.stream
    c.find_format.ensures.handed pcapng.Item pcapng.End pcapng.before_blocks format.Pcapng (λ fault all. all) (λ front. front)
    (subst (λ k. IfSome (left c.find_format.new.window
    (g.R.Read.remaining (device_of c.find_format.new.input))) (λ l. k ≡ format_of c.args.form l))
    c.in-Pcapng.is c.in_ok-format.ensures.format) c.read_capture-in-Pcapng.result
    (subst (λ x. IfErr c.read_capture-in-Pcapng.result (Stops pcapng.Item pcapng.End g.P.Sink.handed x
    (left c.find_format.new.window
    (g.R.Read.remaining (device_of c.find_format.new.input))) c.find_format.new.printer
    c.read_capture-in-Pcapng.new.printer))
    c.in_ok-decoder-in-Pcapng.ensures c.read_capture-in-Pcapng.ensures.stopped)

pub returns-in_ok-decoder-in-Text-clause-whole : goal.returns-in_ok-decoder-in-Text-clause-whole
returns-in_ok-decoder-in-Text-clause-whole g c =
    input_whole g.P.Sink.handed c.args.form _ _ _ _ _ c.find_format.ensures.stream
    c.find_format.ensures.handed format.Text c.read_capture-in-Text.result
    (subst (λ k. IfSome (left c.find_format.new.window
    (g.R.Read.remaining (device_of c.find_format.new.input))) (λ l. k ≡ format_of c.args.form l))
    c.in-Text.is c.in_ok-format.ensures.format)
    c.read_capture-in-Text.ensures.whole

pub returns-in_ok-decoder-in-Text-clause-stopped : goal.returns-in_ok-decoder-in-Text-clause-stopped
returns-in_ok-decoder-in-Text-clause-stopped g c =
    input_stopped g.P.Sink.handed c.args.form _ _ _ _ _ c.find_format.ensures.stream
    c.find_format.ensures.handed text.Item text.End tt format.Text (λ fault all. all) (λ front. front)
    (subst (λ k. IfSome (left c.find_format.new.window
    (g.R.Read.remaining (device_of c.find_format.new.input))) (λ l. k ≡ format_of c.args.form l))
    c.in-Text.is c.in_ok-format.ensures.format) c.read_capture-in-Text.result
    c.read_capture-in-Text.ensures.stopped
