use Rattle.levels.specs.Table.{segment_test}
use Rattle.levels.proofs.Book.put_tops.Goals as goal

pub returns : goal.returns
returns c =
    c.put_blocks.ensures (segment_test c.args.self.now.tape.now c.args.self.now.st.now) (λ i m r h e. e)
