use Rattle.std.proofs.Common.{◌≡◌, ◌+◌, ◌*◌, refl, sym, ap, ◌∙◌, arith}
use Rattle.splice.specs.Parts.{put_first, put_last, put_room, put_more, item_none, item_put}
use Rattle.splice.specs.Counted.{place_in}
use Rattle.splice.specs.Window.{window_value}
use Rattle.splice.proofs.section.Section.put_part.Goals as goal
use Rattle.splice.proofs.section.Section.put_part.Goals.{then-is_in, else-is_in}

pub loop-i-init : goal.loop-i-init
loop-i-init g c = put_first g.met.K.Spliced.kind (window_value c.args.w) c.args.part c.args.self.now.tape.now c.args.self.now.run.at c.args.out.now c.args.to

pub put-requires : goal.put-requires
put-requires g c =
    let e = ap (λ z. c.args.self.now.run.at + z * c.loop-i.i) c.SIZE.ensures in (
      omega (arith, place_in c.args.self.now.run.at g.K.Spliced.SIZE c.loop-i.i c.args.self.now.run.count _ e c.loop-i-test.true, c.args.self.now.inside),
      put_room g.met.K.Spliced.kind (window_value c.args.w) c.args.part c.args.self.now.tape.now c.args.self.now.run.at c.args.out.now c.args.to c.loop-i.invariant c.args.self.now.run.count c.loop-i-test.true
          c.requires _ e (sym c.is_in.ensures ∙ c.if-is_in.true),
    )

pub overflow_add-next : goal.overflow_add-next
overflow_add-next g c =
    let room = put_room g.met.K.Spliced.kind (window_value c.args.w) c.args.part c.args.self.now.tape.now c.args.self.now.run.at c.args.out.now c.args.to c.loop-i.invariant c.args.self.now.run.count c.loop-i-test.true
    c.requires _ (ap (λ z. c.args.self.now.run.at + z * c.loop-i.i) c.SIZE.ensures) (sym c.is_in.ensures ∙ c.if-is_in.true) in
    omega (arith, room, c.SIZE-next.ensures, c.well_formed)

pub loop-i-preserved : goal.loop-i-preserved
loop-i-preserved g c =
    let k = g.met.K.Spliced.kind in
    let w = window_value c.args.w in
    let t = c.args.self.now.tape.now in
    let q = c.args.self.now.run.at + c.SIZE.result * c.loop-i.i in
    let e : q ≡ c.args.self.now.run.at + g.K.Spliced.SIZE * c.loop-i.i = ap (λ z. c.args.self.now.run.at + z * c.loop-i.i) c.SIZE.ensures in
    elim c.if-is_in.branch [
      | then-is_in v ↦
          let p = item_put k w c.args.part t q c.loop-i.out c.loop-i.next (sym c.is_in.ensures ∙ v.if-is_in.true) (v.out-is ∙ v.put.ensures) refl in
          put_more k w c.args.part t c.args.self.now.run.at c.args.out.now c.args.to c.loop-i.invariant c.args.self.now.run.count c.loop-i-test.true c.requires q e
          (v.next-is ∙ ap (λ z. c.loop-i.next + z) v.SIZE-next.ensures ∙ p.0) p.1
      | else-is_in v ↦
          let p = item_none k w c.args.part t q c.loop-i.out c.loop-i.next (sym c.is_in.ensures ∙ v.if-is_in.false) in
          put_more k w c.args.part t c.args.self.now.run.at c.args.out.now c.args.to c.loop-i.invariant c.args.self.now.run.count c.loop-i-test.true c.requires q e
          (v.next-is ∙ p.0) (v.out-is ∙ p.1)
    ]

pub returns : goal.returns
returns g c = put_last g.met.K.Spliced.kind (window_value c.args.w) c.args.part c.args.self.now.tape.now c.args.self.now.run.at c.args.out.now c.args.to c.loop-i.invariant c.args.self.now.run.count (omega arith)
