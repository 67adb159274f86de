-- A server that has one reply, and whose requests carry out nothing.
use Rattle.std.specs.Prelude.{ℕ, true, None, length, codes}
use Rattle.ox_http.specs.Talk.{talk}
use Rattle.ox_http.specs.Written.{fault_reply, unavailable, written}
use Rattle.ox_links.specs.Serving.{Server}

abbrev pub server : Server ℕ ℕ
server = record {
  talk = talk;
  fault_reply = λ status. record {
    bytes = written (fault_reply status);
    size = length (fault_reply status).body;
    close = true;
  };
  unavailable = record { bytes = unavailable; size = 0; close = true };
  command = λ operator request. None;
  turn = λ state command. None;
  reply = λ state operator request.
      record { bytes = codes "ok"; size = 2; close = request.close };
}
