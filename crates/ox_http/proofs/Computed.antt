-- What a proof unfolds to compute the talk of a literal.
use Rattle.std.specs.Prelude.{⊤}
use Rattle.std.specs.Str.{is_utf8, chars}
use Rattle.std.specs.Char.{encode_utf8}
use Rattle.httparse.proofs.OnLiterals.{httparse_on_literals}
use Rattle.ox_http.specs.First.{closes, fault_of, first_of, front_of, head_length}
use Rattle.ox_http.specs.Head.{head_of}
use Rattle.ox_http.specs.Lines.{lines_of}
use Rattle.ox_http.specs.Talk.{talk, talk_behind, left, left_behind}

unfoldable pub http_on_literals : ⊤
unfolding talk talk_behind left left_behind first_of front_of head_length head_of lines_of fault_of closes httparse_on_literals is_utf8 chars encode_utf8
http_on_literals = tt
