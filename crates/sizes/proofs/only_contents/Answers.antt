use Rattle.std.proofs.Common.{refl}
use Rattle.sizes.specs.Plain.{whole_none, whole_only}
use Rattle.sizes.proofs.only_contents.Goals as goal

pub returns-then-w-ne1 : goal.returns-then-w-ne1
returns-then-w-ne1 c =
    whole_none c.args.w.now.st.now _ refl refl

pub returns-then-w-ne0 : goal.returns-then-w-ne0
returns-then-w-ne0 c =
    whole_none c.args.w.now.st.now _ refl refl

pub returns-then-w-eq0 : goal.returns-then-w-eq0
returns-then-w-eq0 c =
    whole_none c.args.w.now.st.now _ refl refl

pub returns : goal.returns
returns c =
    whole_only c.args.w.now.st.now c.if-w-ne1.false c.if-w-ne0.false _ c.content_place.ensures refl c.if-w-eq0.false
