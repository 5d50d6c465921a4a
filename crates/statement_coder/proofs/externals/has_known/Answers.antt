use Rattle.std.{proofs.Common.{ℕ, ◌≡◌, List, [], ◌∷◌, ◌++◌, ◌||◌, Bool, false, Bor, Option, Some, ap, ap₂, sym, ◌∙◌}, specs.Prelude.{is_some, if◌then◌else◌}, specs.Option.option_copied, proofs.Math.Bool.or-false}
use Rattle.definitions.specs.Blocks.{is_named}
use Rattle.statement_coder.{specs.Joins.Externals.has_known, proofs.SeenLaws.{any_seen, none-seen, seen-more}}
use Rattle.statement_coder.proofs.externals.has_known.Goals as goal

pub names-init : goal.names-init
names-init g c =
    let known = has_known (g.S.EarlySymbols.view c.args.symbols.now) c.args.names in
    ap (λ (seen : List (List ℕ)). known || any_seen seen c.args.names) c.with_hasher-seen.ensures.empty
    ∙ ap (λ (t : Bool). known || t) (none-seen c.args.names)
    ∙ or-false known

pub names-preserved : goal.names-preserved
names-preserved g c =
    let symbol = g.S.EarlySymbols.view c.args.symbols.now in
    let name = c.in-Some-Some.name.now in
    let seen = c.names.seen.keys in
    let left = c.next.new.self in
    let told = c.in_ok-is_again-in-Some-Some.ensures in
    let undefined : is_some (symbol name) ≡ false = sym (c.is_some.ensures ∙ ap is_some c.symbol.ensures) ∙ c.if-is_some.false in
    let unseen : is_named name seen ≡ false = ap (λ (n : List ℕ). is_named n seen) (sym c.new.ensures) ∙ sym told.again ∙ c.if-branch.false in
    let kept : c.is_again.new.seen.keys ≡ seen ++ name ∷ [] = told.seen ∙ ap₂ (λ (t : Bool) (n : List ℕ). if t then seen else seen ++ n ∷ []) c.if-branch.false c.new.ensures in
    let rest : c.names.rest ≡ Some name ∷ left = c.in-Some-Some.ensures.some ∙ ap (λ (o : Option (Bor (List ℕ))). option_copied o ∷ left) c.in-Some-Some.field-0-is in
    ap (λ (l : List (List ℕ)). has_known symbol left || any_seen l left) kept
    ∙ seen-more symbol name seen left undefined unseen
    ∙ ap (λ (l : List (Option (List ℕ))). has_known symbol l || any_seen seen l) (sym rest)
    ∙ c.names.invariant
