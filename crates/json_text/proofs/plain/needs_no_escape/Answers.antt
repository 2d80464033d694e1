use Rattle.json.proofs.Printed.Plain.{escape_on_plain}
use Rattle.json_text.proofs.plain.needs_no_escape.Goals as goal

pub returns-then-bytes-lt16 : goal.returns-then-bytes-lt16
returns-then-bytes-lt16 c = escape_on_plain c.plain_short.result c.args.bytes.now c.plain_short.ensures

pub returns-else-bytes-lt16 : goal.returns-else-bytes-lt16
returns-else-bytes-lt16 c = escape_on_plain c.plain_many.result c.args.bytes.now c.plain_many.ensures
