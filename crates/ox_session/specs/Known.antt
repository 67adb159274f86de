-- A head that was read and kept.
use Rattle.ox_http.specs.First.{Asked}
use Rattle.ox_session.specs.declared.stream.Known.{Known}

-- what the head asks
abbrev pub asked_in : Known → Asked
asked_in known = record {
  method = known.method;
  path = known.path;
  size = known.body_len;
  close = known.close;
}
