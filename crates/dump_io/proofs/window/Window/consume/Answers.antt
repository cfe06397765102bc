use Rattle.std.proofs.Common.{sym}
use Rattle.std.proofs.lemmas.List.{drop-drop}
use Rattle.dump_io.proofs.window.Window.consume.Goals as goal

pub returns : goal.returns
returns c = sym (drop-drop c.args.count c.args.self.now.start _)
