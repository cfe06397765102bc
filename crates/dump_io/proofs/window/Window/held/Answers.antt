use Rattle.std.proofs.Common.{◌∙◌, ap, take, drop}
use Rattle.std.proofs.lemmas.Slice.{between_is}
use Rattle.dump_io.proofs.window.Window.held.Goals as goal

pub returns : goal.returns
returns c =
    between_is _ c.args.self.now.start c.args.self.now.end
    ∙ ap (λ l. drop c.args.self.now.start (take c.args.self.now.end l)) c.deref.ensures.value
