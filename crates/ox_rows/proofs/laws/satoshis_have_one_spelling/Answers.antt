use Rattle.ox_rows.proofs.ReaderLaws.{bytes_are}
use Rattle.ox_rows.proofs.SatsLaws.{sats_law}
use Rattle.ox_rows.proofs.laws.satoshis_have_one_spelling.Goals as goal

pub returns-clause-read : goal.returns-clause-read
returns-clause-read c = λ bytes numbers rest are e. let t = sats_law.takes bytes (numbers, rest) (bytes_are bytes are) e in (t.1, t.0.parts)

pub returns-clause-again : goal.returns-clause-again
returns-clause-again c = λ numbers rest fits. sats_law.again numbers rest fits
