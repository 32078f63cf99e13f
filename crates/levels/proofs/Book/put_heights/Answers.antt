use Rattle.levels.specs.Table.{content_test}
use Rattle.levels.proofs.Book.put_heights.Goals as goal

pub returns : goal.returns
returns c =
    c.put_blocks.ensures (content_test c.args.self.now.tape.now c.args.self.now.st.now) (λ i m r h e. e)
