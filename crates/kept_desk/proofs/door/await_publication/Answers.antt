use Rattle.std.proofs.Common.{◌∙◌, subst, sym}
use Rattle.kept_desk.specs.{declared.ends.Woken.Woken, Waiting.{not_yet, once_more, shown, time_up}}
use Rattle.kept_desk.proofs.door.await_publication.Goals as goal

pub loop-init : goal.loop-init
loop-init g c = not_yet

pub loop-preserved : goal.loop-preserved
loop-preserved g c =
    let P : Woken → Type 0 = λ (woken : Woken). g.E.Ends.relations.sleeps c.loop.ends c.args.version woken c.sleep-woken.new.self in
    once_more c.loop.desk c.call-reply.new.self c.loop.ends c.sleep-woken.new.self c.loop.invariant (record {
      reply = c.call-reply.result;
      asked = c.call-reply.ensures;
      earlier = sym c.is_shown.ensures ∙ c.if-is_shown.false;
      slept = subst P c.in_default.is c.sleep-woken.ensures;
    })

pub returns-then-is_shown : goal.returns-then-is_shown
returns-then-is_shown g c = shown c.loop.desk c.loop.invariant c.call-reply.ensures (sym c.is_shown.ensures ∙ c.if-is_shown.true)

pub returns-in-TimeUp : goal.returns-in-TimeUp
returns-in-TimeUp g c =
    let P : Woken → Type 0 = λ (woken : Woken). g.E.Ends.relations.sleeps c.loop.ends c.args.version woken c.sleep-woken.new.self in
    time_up c.loop.desk c.call-reply.new.self c.loop.ends c.loop.invariant (record {
      reply = c.call-reply.result;
      asked = c.call-reply.ensures;
      earlier = sym c.is_shown.ensures ∙ c.if-is_shown.false;
      slept = subst P c.in-TimeUp.is c.sleep-woken.ensures;
    }) c.call.ensures
