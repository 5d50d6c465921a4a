use Rattle.std.proofs.Common.{arith, ◌≡◌, ℕ, ◌+◌, ◌-◌, ◌^◌, min, ◌≤◌, List, ◌++◌, ◌∷◌, [], ap, ◌∙◌, sym, subst, append_assoc}
use Rattle.turn_office.{specs.declared.history.Entry.Entry, specs.Histories.{entry, Leads}, proofs.Reading.true_later}
use Rattle.desk_tests.specs.declared.offices.Sum.{Sum}
use Rattle.desk_tests.proofs.offices.add_and_read.Goals as goal

-- what a step of the sum may do
abbrev Adds : Sum → ℕ → ℕ → Sum → Type 0
Adds old call reply new = (reply ≡ min (old.total + call) (2 ^ 64 - 1)) × (new.total ≡ reply)

-- the history that was seen before, what came between, the call, and so on up to the call that reads
whole : (seen between made more seen' between' read log : List (Entry ℕ ℕ)) → log ≡ (seen' ++ between') ++ read → ((seen ++ between) ++ made) ++ more ≡ seen' → log ≡ (((seen ++ between) ++ made) ++ (more ++ between')) ++ read
whole seen between made more seen' between' read log ends met = ends ∙ ap (λ l. l ++ read) (ap (λ l. l ++ between') (sym met) ∙ append_assoc ((seen ++ between) ++ made) more between')

pub returns-clause-read : goal.returns-clause-read
returns-clause-read g c =
    let amount : ℕ = c.args.amount in
    let made = c.call.ensures.history in
    let met = c.meet.ensures.seen.1.begins in
    let read = c.call-2.ensures.history in
    let add : Entry ℕ ℕ = entry c.args.first.now.number amount c.call.result in
    let look : Entry ℕ ℕ = entry c.meet.new.self.number 0 c.call-2.result in
    let log = whole c.args.first.now.seen made.between (add ∷ []) met.0 _ read.between (look ∷ []) _ read.ends (ap (λ l. l ++ met.0) (sym made.ends) ∙ met.1) in
    let later = true_later Adds (λ s. amount ≤ s.total) (λ old new call reply step before. omega (arith, step.0, step.1)) _ _ (c.args.first.now.seen ++ made.between) (met.0 ++ read.between) add look
    (λ old new step. omega (arith, step.0, step.1, c.ranges.amount.fits)) (subst (λ l. Leads Adds c.args.office.now.first l read.legal.last) log read.legal.leads) in
    omega (arith, later.1, later.2.0, c.ranges.amount.fits)
