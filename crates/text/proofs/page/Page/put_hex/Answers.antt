use Rattle.text.proofs.Paths.{puts_then, puts_as, hex_shown}
use Rattle.text.proofs.page.Page.put_hex.Goals as goal

pub returns : goal.returns
returns c =
    puts_as (hex_shown _ c.hex_digit.ensures c.hex_digit-2.ensures)
    (puts_then (puts_then c.put_byte-3.ensures c.put_byte-2.ensures) c.put_byte.ensures)
