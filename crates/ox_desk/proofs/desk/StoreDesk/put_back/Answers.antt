use Rattle.std.proofs.Common.{◌≡◌, Some, None, ap, arith, sym}
use Rattle.std.specs.Prelude.{Result}
use Rattle.ox_desk.specs.Desk.{DeskContents}
use Rattle.ox_desk.specs.PutBack.{desk_by, made_by}
use Rattle.ox_desk.specs.declared.carry.Carried.{Carried}
use Rattle.ox_gated.specs.declared.tail.DiskFault.{DiskFault}
use Rattle.ox_desk.proofs.PutBack.{desk_is, made_is, sound_is}
use Rattle.ox_desk.proofs.desk.StoreDesk.put_back.Goals as goal

pub returns-in_default : goal.returns-in_default
returns-in_default c = record {
  made = ap (λ (r : Result Carried DiskFault). made_by r c.args.close) (sym c.in_default.is);
  desk = ap (λ (r : Result Carried DiskFault). desk_by r c.args.self.now) (sym c.in_default.is);
}

pub invariant_of-self : goal.invariant_of-self
invariant_of-self c = λ is_open.
    sound_is c.args.carried c.in-Ok.field-0 None c.in-Ok.is c.in_default-told.is c.self.inside.store c.self.inside.requests c.self.inside.cache c.args.self.now c.self.view_is c.requires.sound

pub returns-in_default-told : goal.returns-in_default-told
returns-in_default-told c = record {
  made = made_is c.args.carried c.in-Ok.field-0 None c.in-Ok.is c.in_default-told.is c.self.inside.store c.self.inside.requests c.self.inside.cache c.args.self.now c.self.view_is c.args.close;
  desk = desk_is c.args.carried c.in-Ok.field-0 None c.in-Ok.is c.in_default-told.is c.self.inside.store c.self.inside.requests c.self.inside.cache c.args.self.now c.self.view_is;
}

pub overflow_add-self : goal.overflow_add-self
overflow_add-self c =
    let same : c.self.inside.requests ≡ c.args.self.now.requests = ap (λ (d : DeskContents). d.requests) c.self.view_is in
    omega (arith, same, c.requires.room)

pub invariant_of-self-2 : goal.invariant_of-self-2
invariant_of-self-2 c = λ is_open.
    sound_is c.args.carried c.in-Ok.field-0 (Some c.in-Some.bytes) c.in-Ok.is c.in-Some.is c.self.inside.store c.self.inside.requests c.self.inside.cache c.args.self.now c.self.view_is c.requires.sound

pub returns : goal.returns
returns c = record {
  made =
      made_is c.args.carried c.in-Ok.field-0 (Some c.in-Some.bytes) c.in-Ok.is c.in-Some.is c.self.inside.store c.self.inside.requests c.self.inside.cache c.args.self.now c.self.view_is c.args.close;
  desk =
      desk_is c.args.carried c.in-Ok.field-0 (Some c.in-Some.bytes) c.in-Ok.is c.in-Some.is c.self.inside.store c.self.inside.requests c.self.inside.cache c.args.self.now c.self.view_is;
}
