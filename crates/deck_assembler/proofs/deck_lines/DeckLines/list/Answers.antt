use Rattle.std.proofs.Common.{◌∙◌, None, sym}
use Rattle.definitions.specs.Objects.{only_listed}
use Rattle.deck_assembler.proofs.{KeptLaws.kept_same, WalkLaws.{lined-step, stood-step}}
use Rattle.deck_assembler.proofs.deck_lines.DeckLines.list.Goals as goal

pub returns-clause-lined : goal.returns-clause-lined
returns-clause-lined c =
    λ whole shown given is listed lined.
    let self = c.args.self.now in
    lined-step whole shown (only_listed given) (record { cards = c.args.count; letters = c.none.result; coded = None }) self
    (record { lines = c.push.new.self; fields = self.fields; stood = c.saturating_add-self.result; block = self.block })
    c.in_ok-push.ensures.items (kept_same self.fields)
    (c.saturating_add-self.ensures ∙ stood-step self.stood c.args.count whole.cards listed.some listed.within is.few)
    (record { before = sym listed.before; cards = listed.cards; some = listed.some; within = listed.within; letters = c.none.ensures; stored = tt }) lined
