use Rattle.std.proofs.{Common.{◌≡◌, ◌∙◌, Option, Some, true≢false, refl, sym, subst}, lemmas.Result.on_ok_weaker}
use Rattle.definitions.specs.{Settled.Settled, Settling.{settle, settled_all}, StatementItems.Context}
use Rattle.deck_assembler.{specs.Joins.FormerLines.{WasLine, WasLineIfAny}, specs.Joins.Rebindings.AreBindings, specs.Joins.Walks.{context_in, whole_of}, specs.declared.former_lines.FormerLine.FormerLine, proofs.FormerLaws.{still-letters, still-coded}, proofs.ResultLaws.on_ok_any}
use Rattle.deck_assembler.proofs.deck_lines.DeckLines.put.Goals as goal

pub returns-in-None-clause-lined : goal.returns-in-None-clause-lined
returns-in-None-clause-lined c =
    on_ok_weaker c.add.result (λ lined known others earlier given is same taken sized has was. lined known others earlier given is same taken sized has) c.add.ensures.lined

pub returns-then-is_rebound-clause-lined : goal.returns-then-is_rebound-clause-lined
returns-then-is_rebound-clause-lined c =
    on_ok_weaker c.add-then-is_rebound.result (λ lined known others earlier given is same taken sized has was. lined known others earlier given is same taken sized has) c.add-then-is_rebound.ensures.lined

pub returns-else-is_rebound-clause-lined : goal.returns-else-is_rebound-clause-lined
returns-else-is_rebound-clause-lined c =
    on_ok_weaker c.copy.result (λ lined known others earlier given is same taken sized has was.
    let whole = whole_of c.args.view.now known others in
    let settled : Settled = settle whole.deck.kind (settled_all whole.deck.kind earlier) given in
    let new : Context = context_in whole in
    let found = c.in-Some.found in
    let there : WasLine whole.deck.kind found settled = subst (λ (f : Option FormerLine). WasLineIfAny whole.deck.kind f settled) c.in-Some.is was in
    let tested = c.is_rebound.ensures there.context new settled there.bindings is.sized.symbols refl refl taken sized.sizing.location sized.sizing.origin in
    let not_rebound = sym tested ∙ c.if-is_rebound.false in
    lined known others earlier given there.context.rows is sized has (still-letters whole.deck.kind found settled new there refl not_rebound) (still-coded whole.deck.kind found settled new there refl not_rebound)) c.copy.ensures.lined

some-same : (a b : FormerLine) → Some a ≡ Some b → a ≡ b
some-same a b e = cc

-- what is not bound otherwise is copied
pub returns-then-is_rebound-clause-kept : goal.returns-then-is_rebound-clause-kept
returns-then-is_rebound-clause-kept c = λ known others earlier given old one is taken sized found bound rebound.
    let whole = whole_of c.args.view.now known others in
    let settled : Settled = settle whole.deck.kind (settled_all whole.deck.kind earlier) given in
    let same : c.in-Some.found ≡ one = some-same c.in-Some.found one (sym c.in-Some.is ∙ found) in
    let tested = c.is_rebound.ensures old (context_in whole) settled (subst (λ (f : FormerLine). AreBindings f.bindings old) (sym same) bound) is.sized.symbols refl refl taken sized.sizing.location sized.sizing.origin in
    absurd (true≢false (sym c.if-is_rebound.true ∙ tested ∙ rebound))

-- and what is bound otherwise is counted
pub returns-in-None-clause-anew : goal.returns-in-None-clause-anew
returns-in-None-clause-anew c = on_ok_any c.add.result (λ known others earlier given old one is taken sized found bound rebound. c.add.ensures.coded)

pub returns-then-is_rebound-clause-anew : goal.returns-then-is_rebound-clause-anew
returns-then-is_rebound-clause-anew c = on_ok_any c.add-then-is_rebound.result (λ known others earlier given old one is taken sized found bound rebound. c.add-then-is_rebound.ensures.coded)

pub returns-else-is_rebound-clause-anew : goal.returns-else-is_rebound-clause-anew
returns-else-is_rebound-clause-anew c = on_ok_any c.copy.result (λ known others earlier given old one is taken sized found bound rebound.
    let whole = whole_of c.args.view.now known others in
    let settled : Settled = settle whole.deck.kind (settled_all whole.deck.kind earlier) given in
    let same : c.in-Some.found ≡ one = some-same c.in-Some.found one (sym c.in-Some.is ∙ found) in
    let tested = c.is_rebound.ensures old (context_in whole) settled (subst (λ (f : FormerLine). AreBindings f.bindings old) (sym same) bound) is.sized.symbols refl refl taken sized.sizing.location sized.sizing.origin in
    absurd (true≢false (sym rebound ∙ sym tested ∙ c.if-is_rebound.false)))
