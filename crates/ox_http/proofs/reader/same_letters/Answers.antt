-- Lower-case letters are compared.
use Rattle.std.specs.Str.{str_to_ascii_lowercase}
use Rattle.ox_http.proofs.Values.{same_from_iff}
use Rattle.ox_http.proofs.reader.same_letters.Goals as goal

pub returns : goal.returns
returns c =
    same_from_iff _ (str_to_ascii_lowercase c.args.a.now) (str_to_ascii_lowercase c.args.b.now)
    c.eq_ignore_ascii_case.ensures.test
