-- What was taken of both decks is in front.
use Rattle.std.proofs.{Common.{◌∷◌, refl}, lemmas.Result.on_ok_weaker}
use Rattle.deck_assembler.{specs.declared.old_deck.OldDeck.OldDeck, proofs.HeadLaws.front-left}
use Rattle.deck_assembler.specs.declared.old_deck.Stage.TheVariants as stages
use Rattle.deck_assembler.proofs.old_deck.OldDeck.leave_front.Goals as goal

pub pass-requires : goal.pass-requires
pass-requires c =
    let old = c.args.self.now in
    let here : OldDeck = record { kind = old.kind; ahead = old.ahead; statements = old.statements; pieces = old.pieces; before = old.before; behind = old.behind; stage = stages.Between; state = c.in_ok-state.state; symbols = c.in_ok-symbols.symbols; missed = old.missed } in
    let some = c.requires in
    record {
      front = (some.0, some.3, front-left some.0 some.1 some.2 (c.args.sized.now ∷ some.3) old here c.args.sizer.now some.4.0 some.4.1 refl refl c.in_ok-state.ensures c.in_ok-symbols.ensures);
    }

pub returns-clause-front : goal.returns-clause-front
returns-clause-front c =
    let now = c.args.self.now in
    let here : OldDeck = record { kind = now.kind; ahead = now.ahead; statements = now.statements; pieces = now.pieces; before = now.before; behind = now.behind; stage = stages.Between; state = c.in_ok-state.state; symbols = c.in_ok-symbols.symbols; missed = now.missed } in
    on_ok_weaker c.pass.result (λ step old cards earlier later is front. step old later (front-left old cards earlier (c.args.sized.now ∷ later) now here c.args.sizer.now is front refl refl c.in_ok-state.ensures c.in_ok-symbols.ensures)) c.pass.ensures.front
