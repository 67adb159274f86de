use Rattle.std.proofs.Common.{◌∙◌, ap, sym, subst, refl, List}
use Rattle.ox_etching.specs.declared.row.RuneRow.{RuneRow}
use Rattle.ox_ledger.specs.Shown.{IsAbsent}
use Rattle.ox_ledger.proofs.TablesLemmas.{absent_minted}
use Rattle.ox_ledger.proofs.tables.Tables.take_up.Goals as goal
use Rattle.ox_ledger.proofs.tables.Tables.take_up.Goals.{in-Some+in_ok-mint+in_ok-add, in_default}

pub add-requires : goal.add-requires
add-requires c = c.requires.minted (c.in-Some.id, c.in-Some.amount) c.in-Some.is

pub push-requires-clause-id : goal.push-requires-clause-id
push-requires-clause-id c = elim c.match-mint.branch [
  | in-Some+in_ok-mint+in_ok-add w ↦
      subst (λ (l : List RuneRow). IsAbsent (λ row. row.id) l c.in-Some-etching.row.id) (sym (ap (λ t. t.runes.now) w.self-is ∙ ap (λ r. r.now) w.in_ok-mint.ensures.ok))
      (absent_minted (λ row. row.id) (λ row n. refl) w.in-Some.id c.args.self.now.runes.now c.in-Some-etching.row.id (c.requires.id c.in-Some-etching.row c.in-Some-etching.is))
  | in_default w ↦
      subst (λ (l : List RuneRow). IsAbsent (λ row. row.id) l c.in-Some-etching.row.id) (sym (ap (λ t. t.runes.now) w.self-is)) (c.requires.id c.in-Some-etching.row c.in-Some-etching.is)
]

pub push-requires-clause-name : goal.push-requires-clause-name
push-requires-clause-name c = elim c.match-mint.branch [
  | in-Some+in_ok-mint+in_ok-add w ↦
      subst (λ (l : List RuneRow). IsAbsent (λ row. row.name) l c.in-Some-etching.row.name) (sym (ap (λ t. t.runes.now) w.self-is ∙ ap (λ r. r.now) w.in_ok-mint.ensures.ok))
      (absent_minted (λ row. row.name) (λ row n. refl) w.in-Some.id c.args.self.now.runes.now c.in-Some-etching.row.name (c.requires.name c.in-Some-etching.row c.in-Some-etching.is))
  | in_default w ↦
      subst (λ (l : List RuneRow). IsAbsent (λ row. row.name) l c.in-Some-etching.row.name) (sym (ap (λ t. t.runes.now) w.self-is)) (c.requires.name c.in-Some-etching.row c.in-Some-etching.is)
]
