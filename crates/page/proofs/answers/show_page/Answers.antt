use Rattle.std.proofs.Common.{◌++◌, refl}
use Rattle.page.{specs.declared.page_style.TheConstants.TOP, specs.declared.page_text.TheConstants.BODY, specs.declared.page_script.TheConstants.SCRIPT, specs.declared.page_edits.TheConstants.EDITS, proofs.Shown.page-shown}
use Rattle.page.proofs.answers.show_page.Goals as goal

pub returns : goal.returns
returns c =
    page-shown c.push_page.result c.begin_page.new.response
    (record { status = c.begin_page.new.response.status; headers = c.begin_page.new.response.headers; body = c.push_page.new.body })
    ((TOP.now ++ BODY.now) ++ (SCRIPT.now ++ EDITS.now)) c.in_ok-begin_page.ensures refl refl c.push_page.ensures
