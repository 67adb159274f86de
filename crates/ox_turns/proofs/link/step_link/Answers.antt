use Rattle.std.proofs.Common.{◌≡◌, ◌∙◌, ◌++◌, ℕ, true, false, refl, sym, ap, subst}
use Rattle.std.specs.Prelude.{IsTrue}
use Rattle.ox_outside.specs.Crash.{Remains}
use Rattle.ox_outside.specs.Event.{give_up_events, has_given_up, is_open, shut_events}
use Rattle.ox_outside.specs.Log.{Adds}
use Rattle.ox_outside.specs.Runs.{LeavesOnly}
use Rattle.ox_outside.specs.declared.site.Doorway.{Doorway}
use Rattle.ox_http.specs.First.{first_of}
use Rattle.ox_session.specs.Link.{Link}
use Rattle.ox_links.specs.Link.{is_operator}
use Rattle.ox_links.specs.Serving.{served_by}
use Rattle.ox_turns.specs.Turn.{DeskGoes, Goes, StandsForNext}
use Rattle.ox_turns.specs.declared.link.Came.TheVariants.{Nothing, Part, More, NoMemory, Over}
use Rattle.ox_turns.specs.declared.link.Next.{Next}
use Rattle.ox_turns.specs.declared.link.Next.TheVariants.{Rests, NoMemory as NoneLeft, Over as Ends}
use Rattle.ox_turns.proofs.LinkCrashes.{ready_rests, going_on_still, came_left, more_left, finish_left}
use Rattle.ox_turns.proofs.LinkTurns.{made_part, made_rests, made_up, made_over, made_no_memory, made_end, cut_short}
use Rattle.ox_turns.proofs.link.step_link.Goals as goal

pub give_up-requires-clause-open : goal.give_up-requires-clause-open
give_up-requires-clause-open g c x is =
    let S = g.S.Site in
    let still = going_on_still c.args.slot.now.channel S More c.args.slot.now.session c.call.new.slot.session c.args.site.now c.call.new.site c.in-More.ensures.comes c.requires.goes_on x (sym c.in-Ok-NoMemory.ensures.logged ∙ is) in
    subst (λ (k : ℕ). IsTrue (is_open k x)) (sym (c.in-Ok-NoMemory.ensures.keeps.channel ∙ c.in-More.ensures.keeps.channel)) still.0

pub give_up-requires-clause-once : goal.give_up-requires-clause-once
give_up-requires-clause-once g c x is =
    let S = g.S.Site in
    let goes = subst (λ (n : Next). Goes g.D.Desk.server (is_operator c.call.new.slot.door) n c.call.new.slot.session c.answer.new.slot.session (g.D.Desk.state c.args.desk.now) (g.D.Desk.state c.answer.new.desk)) c.in-Ok-NoMemory.field-0-is c.in-Ok-NoMemory.ensures.goes in
    let still = going_on_still c.args.slot.now.channel S More c.args.slot.now.session c.call.new.slot.session c.args.site.now c.call.new.site c.in-More.ensures.comes c.requires.goes_on x (sym c.in-Ok-NoMemory.ensures.logged ∙ is) in
    subst (λ (k : ℕ). has_given_up k x ≡ false) (sym (c.in-Ok-NoMemory.ensures.keeps.channel ∙ c.in-More.ensures.keeps.channel)) (still.1 goes.0)

pub shut-requires : goal.shut-requires
shut-requires g c = record {
  channel = λ x is.
      let S = g.S.Site in
      let still = going_on_still c.args.slot.now.channel S More c.args.slot.now.session c.call.new.slot.session c.args.site.now c.call.new.site c.in-More.ensures.comes c.requires.goes_on x (sym c.in-Ok-Over.ensures.logged ∙ is) in
      subst (λ (k : ℕ). IsTrue (is_open k x)) (sym (c.in-Ok-Over.ensures.keeps.channel ∙ c.in-More.ensures.keeps.channel)) still.0;
}

pub give_up-requires-in-NoMemory-clause-open : goal.give_up-requires-in-NoMemory-clause-open
give_up-requires-in-NoMemory-clause-open g c x is =
    let S = g.S.Site in
    let still = going_on_still c.args.slot.now.channel S NoMemory c.args.slot.now.session c.call.new.slot.session c.args.site.now c.call.new.site c.in-NoMemory.ensures.comes c.requires.goes_on x is in
    subst (λ (k : ℕ). IsTrue (is_open k x)) (sym c.in-NoMemory.ensures.keeps.channel) still.0

pub give_up-requires-in-NoMemory-clause-once : goal.give_up-requires-in-NoMemory-clause-once
give_up-requires-in-NoMemory-clause-once g c x is =
    let S = g.S.Site in
    let comes = c.in-NoMemory.ensures.comes in
    let still = going_on_still c.args.slot.now.channel S NoMemory c.args.slot.now.session c.call.new.slot.session c.args.site.now c.call.new.site comes c.requires.goes_on x is in
    subst (λ (k : ℕ). has_given_up k x ≡ false) (sym c.in-NoMemory.ensures.keeps.channel) (still.1 (ap (λ (l : Link). l.closing) comes.comes.3 ∙ c.requires.ready.at_rest.goes_on comes.comes.0))

pub shut-requires-in-Over : goal.shut-requires-in-Over
shut-requires-in-Over g c = record {
  channel = λ x is.
      let S = g.S.Site in
      let still = going_on_still c.args.slot.now.channel S Over c.args.slot.now.session c.call.new.slot.session c.args.site.now c.call.new.site c.in-Over.ensures.comes c.requires.goes_on x is in
      subst (λ (k : ℕ). IsTrue (is_open k x)) (sym c.in-Over.ensures.keeps.channel) still.0;
}

pub returns-in-Part-clause-turn : goal.returns-in-Part-clause-turn
returns-in-Part-clause-turn g c log run is follows fronts state =
    let came = c.in-Part.ensures.comes in
    made_part g.S.Site g.D.Desk.server g.met.D.Desk.http g.D.Desk.moved g.D.Desk.same run log c.args.slot.now.channel c.args.slot.now.door c.args.slot.now.session follows fronts c.args.site.now c.call.new.site (g.D.Desk.state c.args.desk.now) c.args.desk.now c.args.desk.now came.events c.call.new.slot.session came.comes came.adds is state refl

pub returns-in-Ok-Rests-clause-turn : goal.returns-in-Ok-Rests-clause-turn
returns-in-Ok-Rests-clause-turn g c log run is follows fronts state =
    let came = c.in-More.ensures.comes in
    let door = c.in-More.ensures.keeps.door in
    let goes = subst (λ (n : Next). Goes g.D.Desk.server (is_operator c.call.new.slot.door) n c.call.new.slot.session c.answer.new.slot.session (g.D.Desk.state c.args.desk.now) (g.D.Desk.state c.answer.new.desk)) c.in-Ok-Rests.field-0-is c.in-Ok-Rests.ensures.goes in
    let goes = subst (λ (d : Doorway). Goes g.D.Desk.server (is_operator d) Rests c.call.new.slot.session c.answer.new.slot.session (g.D.Desk.state c.args.desk.now) (g.D.Desk.state c.answer.new.desk)) door goes in
    let goes = subst (λ (x : g.D.Desk.State). Goes g.D.Desk.server (is_operator c.args.slot.now.door) Rests c.call.new.slot.session c.answer.new.slot.session x (g.D.Desk.state c.answer.new.desk)) state goes in
    let desk = subst (λ (n : Next). DeskGoes g.D.Desk.moved g.D.Desk.same (is_operator c.call.new.slot.door) n (first_of c.call.new.slot.session.heard) c.args.desk.now c.answer.new.desk) c.in-Ok-Rests.field-0-is c.in-Ok-Rests.ensures.desk in
    let desk = subst (λ (d : Doorway). DeskGoes g.D.Desk.moved g.D.Desk.same (is_operator d) Rests (first_of c.call.new.slot.session.heard) c.args.desk.now c.answer.new.desk) door desk in
    made_rests g.S.Site g.D.Desk.server g.met.D.Desk.http g.D.Desk.moved g.D.Desk.same run log c.args.slot.now.channel c.args.slot.now.door c.args.slot.now.session follows fronts c.args.site.now c.answer.new.site (g.D.Desk.state c.answer.new.desk) c.args.desk.now c.answer.new.desk came.events c.call.new.slot.session came.comes (g.S.Site.log c.call.new.site) came.adds is c.answer.new.slot.session c.in-Ok-Rests.ensures.logged goes desk

pub returns-in-Ok-NoMemory-clause-turn : goal.returns-in-Ok-NoMemory-clause-turn
returns-in-Ok-NoMemory-clause-turn g c log run is follows fronts state =
    let came = c.in-More.ensures.comes in
    let door = c.in-More.ensures.keeps.door in
    let goes = subst (λ (n : Next). Goes g.D.Desk.server (is_operator c.call.new.slot.door) n c.call.new.slot.session c.answer.new.slot.session (g.D.Desk.state c.args.desk.now) (g.D.Desk.state c.answer.new.desk)) c.in-Ok-NoMemory.field-0-is c.in-Ok-NoMemory.ensures.goes in
    let goes = subst (λ (d : Doorway). Goes g.D.Desk.server (is_operator d) NoneLeft c.call.new.slot.session c.answer.new.slot.session (g.D.Desk.state c.args.desk.now) (g.D.Desk.state c.answer.new.desk)) door goes in
    let goes = subst (λ (x : g.D.Desk.State). Goes g.D.Desk.server (is_operator c.args.slot.now.door) NoneLeft c.call.new.slot.session c.answer.new.slot.session x (g.D.Desk.state c.answer.new.desk)) state goes in
    let desk = subst (λ (n : Next). DeskGoes g.D.Desk.moved g.D.Desk.same (is_operator c.call.new.slot.door) n (first_of c.call.new.slot.session.heard) c.args.desk.now c.answer.new.desk) c.in-Ok-NoMemory.field-0-is c.in-Ok-NoMemory.ensures.desk in
    let desk = subst (λ (d : Doorway). DeskGoes g.D.Desk.moved g.D.Desk.same (is_operator d) NoneLeft (first_of c.call.new.slot.session.heard) c.args.desk.now c.answer.new.desk) door desk in
    let up = subst (λ (k : ℕ). Adds (give_up_events k) (g.S.Site.log c.answer.new.site) (g.S.Site.log c.give_up.new.site)) (c.in-Ok-NoMemory.ensures.keeps.channel ∙ c.in-More.ensures.keeps.channel) c.give_up.ensures.logged in
    made_up g.S.Site g.D.Desk.server g.met.D.Desk.http g.D.Desk.moved g.D.Desk.same run log c.args.slot.now.channel c.args.slot.now.door c.args.slot.now.session follows fronts c.args.site.now c.give_up.new.site (g.D.Desk.state c.answer.new.desk) c.args.desk.now c.answer.new.desk came.events c.call.new.slot.session came.comes (g.S.Site.log c.call.new.site) came.adds is c.answer.new.slot.session c.give_up.new.slot.session (g.S.Site.log c.answer.new.site) c.in-Ok-NoMemory.ensures.logged up goes desk c.requires.ready.listens c.give_up.ensures.due

pub returns-in-Ok-Over-clause-turn : goal.returns-in-Ok-Over-clause-turn
returns-in-Ok-Over-clause-turn g c log run is follows fronts state =
    let came = c.in-More.ensures.comes in
    let door = c.in-More.ensures.keeps.door in
    let goes = subst (λ (n : Next). Goes g.D.Desk.server (is_operator c.call.new.slot.door) n c.call.new.slot.session c.answer.new.slot.session (g.D.Desk.state c.args.desk.now) (g.D.Desk.state c.answer.new.desk)) c.in-Ok-Over.field-0-is c.in-Ok-Over.ensures.goes in
    let goes = subst (λ (d : Doorway). Goes g.D.Desk.server (is_operator d) Ends c.call.new.slot.session c.answer.new.slot.session (g.D.Desk.state c.args.desk.now) (g.D.Desk.state c.answer.new.desk)) door goes in
    let goes = subst (λ (x : g.D.Desk.State). Goes g.D.Desk.server (is_operator c.args.slot.now.door) Ends c.call.new.slot.session c.answer.new.slot.session x (g.D.Desk.state c.answer.new.desk)) state goes in
    let desk = subst (λ (n : Next). DeskGoes g.D.Desk.moved g.D.Desk.same (is_operator c.call.new.slot.door) n (first_of c.call.new.slot.session.heard) c.args.desk.now c.answer.new.desk) c.in-Ok-Over.field-0-is c.in-Ok-Over.ensures.desk in
    let desk = subst (λ (d : Doorway). DeskGoes g.D.Desk.moved g.D.Desk.same (is_operator d) Ends (first_of c.call.new.slot.session.heard) c.args.desk.now c.answer.new.desk) door desk in
    let shut = subst (λ (k : ℕ). Adds (shut_events k) (g.S.Site.log c.answer.new.site) (g.S.Site.log c.shut.new.self)) (c.in-Ok-Over.ensures.keeps.channel ∙ c.in-More.ensures.keeps.channel) c.shut.ensures.logged in
    made_over g.S.Site g.D.Desk.server g.met.D.Desk.http g.D.Desk.moved g.D.Desk.same run log c.args.slot.now.channel c.args.slot.now.door c.args.slot.now.session follows fronts c.args.site.now c.shut.new.self (g.D.Desk.state c.answer.new.desk) c.args.desk.now c.answer.new.desk came.events c.call.new.slot.session came.comes (g.S.Site.log c.call.new.site) came.adds is c.answer.new.slot.session (g.S.Site.log c.answer.new.site) c.in-Ok-Over.ensures.logged shut goes desk

pub returns-in-Err-clause-cut : goal.returns-in-Err-clause-cut
returns-in-Err-clause-cut g c log run is follows fronts =
    let came = c.in-More.ensures.comes in
    cut_short g.S.Site g.D.Desk.server g.met.D.Desk.http g.D.Desk.moved g.D.Desk.same run log c.args.slot.now.channel c.args.slot.now.door c.args.slot.now.session follows fronts c.args.site.now c.answer.new.site run.state c.args.desk.now c.answer.new.desk came.events c.call.new.slot.session came.comes (g.S.Site.log c.call.new.site) came.adds is (g.S.Site.log c.answer.new.site) c.in-Err.ensures.logged

pub returns-in-NoMemory-clause-turn : goal.returns-in-NoMemory-clause-turn
returns-in-NoMemory-clause-turn g c log run is follows fronts state =
    let came = c.in-NoMemory.ensures.comes in
    let up = subst (λ (k : ℕ). Adds (give_up_events k) (g.S.Site.log c.call.new.site) (g.S.Site.log c.give_up-in-NoMemory.new.site)) c.in-NoMemory.ensures.keeps.channel c.give_up-in-NoMemory.ensures.logged in
    made_no_memory g.S.Site g.D.Desk.server g.met.D.Desk.http g.D.Desk.moved g.D.Desk.same run log c.args.slot.now.channel c.args.slot.now.door c.args.slot.now.session follows fronts c.args.site.now c.give_up-in-NoMemory.new.site (g.D.Desk.state c.args.desk.now) c.args.desk.now c.args.desk.now came.events c.call.new.slot.session c.give_up-in-NoMemory.new.slot.session (g.S.Site.log c.call.new.site) came.comes came.adds is up state refl c.give_up-in-NoMemory.ensures.due

pub returns-in-Over-clause-turn : goal.returns-in-Over-clause-turn
returns-in-Over-clause-turn g c log run is follows fronts state =
    let came = c.in-Over.ensures.comes in
    let shut = subst (λ (k : ℕ). Adds (shut_events k) (g.S.Site.log c.call.new.site) (g.S.Site.log c.shut-in-Over.new.self)) c.in-Over.ensures.keeps.channel c.shut-in-Over.ensures.logged in
    made_end g.S.Site g.D.Desk.server g.met.D.Desk.http g.D.Desk.moved g.D.Desk.same run log c.args.slot.now.channel c.args.slot.now.door c.args.slot.now.session follows fronts c.args.site.now c.shut-in-Over.new.self (g.D.Desk.state c.args.desk.now) c.args.desk.now c.args.desk.now came.events c.call.new.slot.session c.call.new.slot.session (g.S.Site.log c.call.new.site) came.comes came.adds is shut state refl

pub returns-in-Nothing-clause-survives : goal.returns-in-Nothing-clause-survives
returns-in-Nothing-clause-survives g c past since first is follows fronts state told =
    let stood : (r : Remains) → g.S.Site.may_leave c.args.site.now r → g.D.Desk.stands r.files (served_by g.D.Desk.server first since).state = λ r left. subst (λ (x : g.D.Desk.State). g.D.Desk.stands r.files x) state (g.met.D.Desk.rests_stands c.args.desk.now c.args.site.now told c.requires.rests r left) in
    came_left g.S.Site g.D.Desk.server g.D.Desk.stands first past since c.args.site.now is fronts g.met.D.Desk.http c.args.slot.now.channel c.args.slot.now.door c.args.slot.now.session follows Nothing c.call.new.slot.session c.call.new.site c.in-Nothing.ensures.comes stood

pub returns-in-Part-clause-survives : goal.returns-in-Part-clause-survives
returns-in-Part-clause-survives g c past since first is follows fronts state told =
    let stood : (r : Remains) → g.S.Site.may_leave c.args.site.now r → g.D.Desk.stands r.files (served_by g.D.Desk.server first since).state = λ r left. subst (λ (x : g.D.Desk.State). g.D.Desk.stands r.files x) state (g.met.D.Desk.rests_stands c.args.desk.now c.args.site.now told c.requires.rests r left) in
    came_left g.S.Site g.D.Desk.server g.D.Desk.stands first past since c.args.site.now is fronts g.met.D.Desk.http c.args.slot.now.channel c.args.slot.now.door c.args.slot.now.session follows Part c.call.new.slot.session c.call.new.site c.in-Part.ensures.comes stood

pub returns-in-Ok-Rests-clause-survives : goal.returns-in-Ok-Rests-clause-survives
returns-in-Ok-Rests-clause-survives g c past since first is follows fronts state told =
    let stood : (r : Remains) → g.S.Site.may_leave c.args.site.now r → g.D.Desk.stands r.files (served_by g.D.Desk.server first since).state = λ r left. subst (λ (x : g.D.Desk.State). g.D.Desk.stands r.files x) state (g.met.D.Desk.rests_stands c.args.desk.now c.args.site.now told c.requires.rests r left) in
    let files = subst (λ (d : Doorway). LeavesOnly g.S.Site c.call.new.site c.answer.new.site (λ r. StandsForNext g.D.Desk.server g.D.Desk.stands (is_operator d) c.call.new.slot.session (g.D.Desk.state c.args.desk.now) r.files)) c.in-More.ensures.keeps.door (c.in-Ok-Rests.ensures.any_moment (c.in-More.ensures.comes.talks.calls.as_told ∙ told)) in
    let so_far = more_left g.S.Site g.D.Desk.server g.D.Desk.stands first past since c.args.site.now is fronts g.met.D.Desk.http c.args.slot.now.channel c.args.slot.now.door c.args.slot.now.session follows c.call.new.slot.session c.call.new.site c.answer.new.site c.in-More.ensures.comes stood (g.D.Desk.state c.args.desk.now) state files c.in-Ok-Rests.ensures.log_stays in
    so_far

pub returns-in-Err-clause-survives : goal.returns-in-Err-clause-survives
returns-in-Err-clause-survives g c past since first is follows fronts state told =
    let stood : (r : Remains) → g.S.Site.may_leave c.args.site.now r → g.D.Desk.stands r.files (served_by g.D.Desk.server first since).state = λ r left. subst (λ (x : g.D.Desk.State). g.D.Desk.stands r.files x) state (g.met.D.Desk.rests_stands c.args.desk.now c.args.site.now told c.requires.rests r left) in
    let files = subst (λ (d : Doorway). LeavesOnly g.S.Site c.call.new.site c.answer.new.site (λ r. StandsForNext g.D.Desk.server g.D.Desk.stands (is_operator d) c.call.new.slot.session (g.D.Desk.state c.args.desk.now) r.files)) c.in-More.ensures.keeps.door (c.in-Err.ensures.any_moment (c.in-More.ensures.comes.talks.calls.as_told ∙ told)) in
    let so_far = more_left g.S.Site g.D.Desk.server g.D.Desk.stands first past since c.args.site.now is fronts g.met.D.Desk.http c.args.slot.now.channel c.args.slot.now.door c.args.slot.now.session follows c.call.new.slot.session c.call.new.site c.answer.new.site c.in-More.ensures.comes stood (g.D.Desk.state c.args.desk.now) state files c.in-Err.ensures.log_stays in
    so_far

pub returns-in-Ok-NoMemory-clause-survives : goal.returns-in-Ok-NoMemory-clause-survives
returns-in-Ok-NoMemory-clause-survives g c past since first is follows fronts state told =
    let stood : (r : Remains) → g.S.Site.may_leave c.args.site.now r → g.D.Desk.stands r.files (served_by g.D.Desk.server first since).state = λ r left. subst (λ (x : g.D.Desk.State). g.D.Desk.stands r.files x) state (g.met.D.Desk.rests_stands c.args.desk.now c.args.site.now told c.requires.rests r left) in
    let files = subst (λ (d : Doorway). LeavesOnly g.S.Site c.call.new.site c.answer.new.site (λ r. StandsForNext g.D.Desk.server g.D.Desk.stands (is_operator d) c.call.new.slot.session (g.D.Desk.state c.args.desk.now) r.files)) c.in-More.ensures.keeps.door (c.in-Ok-NoMemory.ensures.any_moment (c.in-More.ensures.comes.talks.calls.as_told ∙ told)) in
    let so_far = more_left g.S.Site g.D.Desk.server g.D.Desk.stands first past since c.args.site.now is fronts g.met.D.Desk.http c.args.slot.now.channel c.args.slot.now.door c.args.slot.now.session follows c.call.new.slot.session c.call.new.site c.answer.new.site c.in-More.ensures.comes stood (g.D.Desk.state c.args.desk.now) state files c.in-Ok-NoMemory.ensures.log_stays in
    let rests = g.met.D.Desk.rests_stays c.answer.new.desk c.answer.new.site c.give_up.new.site c.give_up.ensures.call.as_told c.give_up.ensures.files c.in-Ok-NoMemory.ensures.keeps.rests in
    let end : (r : Remains) → g.S.Site.may_leave c.give_up.new.site r → g.D.Desk.stands r.files (g.D.Desk.state c.answer.new.desk) = λ r left. g.met.D.Desk.rests_stands c.answer.new.desk c.give_up.new.site (c.give_up.ensures.call.as_told ∙ (c.in-Ok-NoMemory.ensures.keeps.calls.as_told ∙ c.in-More.ensures.comes.talks.calls.as_told ∙ told)) rests r left in
    finish_left g.S.Site g.D.Desk.server g.D.Desk.stands first past since c.args.site.now is fronts g.D.Desk.moved g.D.Desk.same c.args.slot.now.channel c.args.slot.now.door false c.give_up.new.slot.session (g.D.Desk.state c.answer.new.desk) c.args.desk.now c.answer.new.desk c.answer.new.site c.give_up.new.site g.met.S.Site.logs_now
    (returns-in-Ok-NoMemory-clause-turn g c (past ++ since) (served_by g.D.Desk.server first since) is follows fronts state) so_far c.give_up.ensures.call end

pub returns-in-Ok-Over-clause-survives : goal.returns-in-Ok-Over-clause-survives
returns-in-Ok-Over-clause-survives g c past since first is follows fronts state told =
    let stood : (r : Remains) → g.S.Site.may_leave c.args.site.now r → g.D.Desk.stands r.files (served_by g.D.Desk.server first since).state = λ r left. subst (λ (x : g.D.Desk.State). g.D.Desk.stands r.files x) state (g.met.D.Desk.rests_stands c.args.desk.now c.args.site.now told c.requires.rests r left) in
    let files = subst (λ (d : Doorway). LeavesOnly g.S.Site c.call.new.site c.answer.new.site (λ r. StandsForNext g.D.Desk.server g.D.Desk.stands (is_operator d) c.call.new.slot.session (g.D.Desk.state c.args.desk.now) r.files)) c.in-More.ensures.keeps.door (c.in-Ok-Over.ensures.any_moment (c.in-More.ensures.comes.talks.calls.as_told ∙ told)) in
    let so_far = more_left g.S.Site g.D.Desk.server g.D.Desk.stands first past since c.args.site.now is fronts g.met.D.Desk.http c.args.slot.now.channel c.args.slot.now.door c.args.slot.now.session follows c.call.new.slot.session c.call.new.site c.answer.new.site c.in-More.ensures.comes stood (g.D.Desk.state c.args.desk.now) state files c.in-Ok-Over.ensures.log_stays in
    let rests = g.met.D.Desk.rests_stays c.answer.new.desk c.answer.new.site c.shut.new.self c.shut.ensures.call.as_told c.shut.ensures.files c.in-Ok-Over.ensures.keeps.rests in
    let end : (r : Remains) → g.S.Site.may_leave c.shut.new.self r → g.D.Desk.stands r.files (g.D.Desk.state c.answer.new.desk) = λ r left. g.met.D.Desk.rests_stands c.answer.new.desk c.shut.new.self (c.shut.ensures.call.as_told ∙ (c.in-Ok-Over.ensures.keeps.calls.as_told ∙ c.in-More.ensures.comes.talks.calls.as_told ∙ told)) rests r left in
    finish_left g.S.Site g.D.Desk.server g.D.Desk.stands first past since c.args.site.now is fronts g.D.Desk.moved g.D.Desk.same c.args.slot.now.channel c.args.slot.now.door true c.answer.new.slot.session (g.D.Desk.state c.answer.new.desk) c.args.desk.now c.answer.new.desk c.answer.new.site c.shut.new.self g.met.S.Site.logs_now
    (returns-in-Ok-Over-clause-turn g c (past ++ since) (served_by g.D.Desk.server first since) is follows fronts state) so_far c.shut.ensures.call end

pub returns-in-NoMemory-clause-survives : goal.returns-in-NoMemory-clause-survives
returns-in-NoMemory-clause-survives g c past since first is follows fronts state told =
    let stood : (r : Remains) → g.S.Site.may_leave c.args.site.now r → g.D.Desk.stands r.files (served_by g.D.Desk.server first since).state = λ r left. subst (λ (x : g.D.Desk.State). g.D.Desk.stands r.files x) state (g.met.D.Desk.rests_stands c.args.desk.now c.args.site.now told c.requires.rests r left) in
    let talks = c.in-NoMemory.ensures.comes.talks in
    let rested = g.met.D.Desk.rests_stays c.args.desk.now c.args.site.now c.call.new.site talks.calls.as_told talks.files c.requires.rests in
    let so_far = came_left g.S.Site g.D.Desk.server g.D.Desk.stands first past since c.args.site.now is fronts g.met.D.Desk.http c.args.slot.now.channel c.args.slot.now.door c.args.slot.now.session follows NoMemory c.call.new.slot.session c.call.new.site c.in-NoMemory.ensures.comes stood in
    let rests = g.met.D.Desk.rests_stays c.args.desk.now c.call.new.site c.give_up-in-NoMemory.new.site c.give_up-in-NoMemory.ensures.call.as_told c.give_up-in-NoMemory.ensures.files rested in
    let end : (r : Remains) → g.S.Site.may_leave c.give_up-in-NoMemory.new.site r → g.D.Desk.stands r.files (g.D.Desk.state c.args.desk.now) = λ r left. g.met.D.Desk.rests_stands c.args.desk.now c.give_up-in-NoMemory.new.site (c.give_up-in-NoMemory.ensures.call.as_told ∙ (talks.calls.as_told ∙ told)) rests r left in
    finish_left g.S.Site g.D.Desk.server g.D.Desk.stands first past since c.args.site.now is fronts g.D.Desk.moved g.D.Desk.same c.args.slot.now.channel c.args.slot.now.door false c.give_up-in-NoMemory.new.slot.session (g.D.Desk.state c.args.desk.now) c.args.desk.now c.args.desk.now c.call.new.site c.give_up-in-NoMemory.new.site g.met.S.Site.logs_now
    (returns-in-NoMemory-clause-turn g c (past ++ since) (served_by g.D.Desk.server first since) is follows fronts state) so_far c.give_up-in-NoMemory.ensures.call end

pub returns-in-Over-clause-survives : goal.returns-in-Over-clause-survives
returns-in-Over-clause-survives g c past since first is follows fronts state told =
    let stood : (r : Remains) → g.S.Site.may_leave c.args.site.now r → g.D.Desk.stands r.files (served_by g.D.Desk.server first since).state = λ r left. subst (λ (x : g.D.Desk.State). g.D.Desk.stands r.files x) state (g.met.D.Desk.rests_stands c.args.desk.now c.args.site.now told c.requires.rests r left) in
    let talks = c.in-Over.ensures.comes.talks in
    let rested = g.met.D.Desk.rests_stays c.args.desk.now c.args.site.now c.call.new.site talks.calls.as_told talks.files c.requires.rests in
    let so_far = came_left g.S.Site g.D.Desk.server g.D.Desk.stands first past since c.args.site.now is fronts g.met.D.Desk.http c.args.slot.now.channel c.args.slot.now.door c.args.slot.now.session follows Over c.call.new.slot.session c.call.new.site c.in-Over.ensures.comes stood in
    let rests = g.met.D.Desk.rests_stays c.args.desk.now c.call.new.site c.shut-in-Over.new.self c.shut-in-Over.ensures.call.as_told c.shut-in-Over.ensures.files rested in
    let end : (r : Remains) → g.S.Site.may_leave c.shut-in-Over.new.self r → g.D.Desk.stands r.files (g.D.Desk.state c.args.desk.now) = λ r left. g.met.D.Desk.rests_stands c.args.desk.now c.shut-in-Over.new.self (c.shut-in-Over.ensures.call.as_told ∙ (talks.calls.as_told ∙ told)) rests r left in
    finish_left g.S.Site g.D.Desk.server g.D.Desk.stands first past since c.args.site.now is fronts g.D.Desk.moved g.D.Desk.same c.args.slot.now.channel c.args.slot.now.door true c.call.new.slot.session (g.D.Desk.state c.args.desk.now) c.args.desk.now c.args.desk.now c.call.new.site c.shut-in-Over.new.self g.met.S.Site.logs_now
    (returns-in-Over-clause-turn g c (past ++ since) (served_by g.D.Desk.server first since) is follows fronts state) so_far c.shut-in-Over.ensures.call end

pub returns-in-Ok-Rests-clause-ready : goal.returns-in-Ok-Rests-clause-ready
returns-in-Ok-Rests-clause-ready g c on =
    let goes = subst (λ (n : Next). Goes g.D.Desk.server (is_operator c.call.new.slot.door) n c.call.new.slot.session c.answer.new.slot.session (g.D.Desk.state c.args.desk.now) (g.D.Desk.state c.answer.new.desk)) c.in-Ok-Rests.field-0-is c.in-Ok-Rests.ensures.goes in
    ready_rests g.D.Desk.server g.met.D.Desk.http c.args.slot.now.channel c.args.slot.now.session c.call.new.slot.session c.in-More.ensures.comes.events c.in-More.ensures.comes.comes (is_operator c.call.new.slot.door) c.answer.new.slot.session (g.D.Desk.state c.args.desk.now) (g.D.Desk.state c.answer.new.desk) goes c.requires.ready
