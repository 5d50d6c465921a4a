use Rattle.desk_core.proofs.{CardsThen.{cards_then, shown_then, told_then}, PastAlways.led_there}
use Rattle.desk_core.proofs.laws.kept_changes.Goals as goal

pub returns-clause-cards : goal.returns-clause-cards
returns-clause-cards c begun history desk runs name deck version found since = cards_then begun history desk name deck version runs found since

pub returns-clause-led : goal.returns-clause-led
returns-clause-led c begun history desk runs name deck version found = led_there begun history desk name deck version runs found

pub returns-clause-shown : goal.returns-clause-shown
returns-clause-shown c begun history desk runs next name version told cards backs step = shown_then begun history desk next name version runs told cards backs step

pub returns-clause-told : goal.returns-clause-told
returns-clause-told c begun history desk runs next name version last edits step = told_then begun history desk next name version runs last edits step
