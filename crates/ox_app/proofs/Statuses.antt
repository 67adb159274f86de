-- How the runs of each subcommand don't end, and when they are done.
use Rattle.std.proofs.Common.{◌≡◌, ◌∙◌, ◌⊎◌, false, eqb, eq-eqb, ap, inl, inr, refl, sym, true≢false}
use Rattle.ox_app.specs.Status.{IsApplyStatus, IsDone, IsFoldStatus, IsInitStatus, IsMigrateStatus, IsQueryStatus, IsRefusal, IsServeStatus, code_of}
use Rattle.ox_app.specs.declared.status.Status.{Status}
use Rattle.ox_app.specs.declared.status.Status.TheVariants as ends

-- two statuses that differ, by their codes
pub ends_apart : (a b : Status) → eqb (code_of a) (code_of b) ≡ false → a ≡ b → ⊥
ends_apart a b differ is = true≢false (sym (eq-eqb _ _ (ap code_of is)) ∙ differ)

-- a run that ended in one way didn't end in the other
pub ended_otherwise : (status a b : Status) → eqb (code_of a) (code_of b) ≡ false → status ≡ a → status ≡ b → ⊥
ended_otherwise status a b differ is other = ends_apart a b differ (sym is ∙ other)

pub record NotInit (status : Status) : Type 0 where
  pub usage : status ≡ ends.Usage → ⊥
  pub not_store : status ≡ ends.NotStore → ⊥
  pub hear : status ≡ ends.HearFault → ⊥
  pub door : status ≡ ends.DoorFault → ⊥
  pub old : status ≡ ends.OldCommand → ⊥

pub not_init : (status : Status) → IsInitStatus status → NotInit status
not_init status (inl is) = record { usage = ended_otherwise status ends.Done ends.Usage refl is; not_store = ended_otherwise status ends.Done ends.NotStore refl is; hear = ended_otherwise status ends.Done ends.HearFault refl is; door = ended_otherwise status ends.Done ends.DoorFault refl is; old = ended_otherwise status ends.Done ends.OldCommand refl is }
not_init status (inr (inl is)) = record { usage = ended_otherwise status ends.NotEmpty ends.Usage refl is; not_store = ended_otherwise status ends.NotEmpty ends.NotStore refl is; hear = ended_otherwise status ends.NotEmpty ends.HearFault refl is; door = ended_otherwise status ends.NotEmpty ends.DoorFault refl is; old = ended_otherwise status ends.NotEmpty ends.OldCommand refl is }
not_init status (inr (inr (inl is))) = record { usage = ended_otherwise status ends.DiskFault ends.Usage refl is; not_store = ended_otherwise status ends.DiskFault ends.NotStore refl is; hear = ended_otherwise status ends.DiskFault ends.HearFault refl is; door = ended_otherwise status ends.DiskFault ends.DoorFault refl is; old = ended_otherwise status ends.DiskFault ends.OldCommand refl is }
not_init status (inr (inr (inr (inl is)))) = record { usage = ended_otherwise status ends.ShowFault ends.Usage refl is; not_store = ended_otherwise status ends.ShowFault ends.NotStore refl is; hear = ended_otherwise status ends.ShowFault ends.HearFault refl is; door = ended_otherwise status ends.ShowFault ends.DoorFault refl is; old = ended_otherwise status ends.ShowFault ends.OldCommand refl is }
not_init status (inr (inr (inr (inr is)))) = record { usage = ended_otherwise status ends.Memory ends.Usage refl is; not_store = ended_otherwise status ends.Memory ends.NotStore refl is; hear = ended_otherwise status ends.Memory ends.HearFault refl is; door = ended_otherwise status ends.Memory ends.DoorFault refl is; old = ended_otherwise status ends.Memory ends.OldCommand refl is }

pub record NotFold (status : Status) : Type 0 where
  pub not_empty : status ≡ ends.NotEmpty → ⊥
  pub not_store : status ≡ ends.NotStore → ⊥
  pub disk : status ≡ ends.DiskFault → ⊥
  pub door : status ≡ ends.DoorFault → ⊥
  pub old : status ≡ ends.OldCommand → ⊥

pub not_fold : (status : Status) → IsFoldStatus status → NotFold status
not_fold status (inl is) = record { not_empty = ended_otherwise status ends.Done ends.NotEmpty refl is; not_store = ended_otherwise status ends.Done ends.NotStore refl is; disk = ended_otherwise status ends.Done ends.DiskFault refl is; door = ended_otherwise status ends.Done ends.DoorFault refl is; old = ended_otherwise status ends.Done ends.OldCommand refl is }
not_fold status (inr (inl is)) = record { not_empty = ended_otherwise status ends.HearFault ends.NotEmpty refl is; not_store = ended_otherwise status ends.HearFault ends.NotStore refl is; disk = ended_otherwise status ends.HearFault ends.DiskFault refl is; door = ended_otherwise status ends.HearFault ends.DoorFault refl is; old = ended_otherwise status ends.HearFault ends.OldCommand refl is }
not_fold status (inr (inr (inl is))) = record { not_empty = ended_otherwise status ends.ShowFault ends.NotEmpty refl is; not_store = ended_otherwise status ends.ShowFault ends.NotStore refl is; disk = ended_otherwise status ends.ShowFault ends.DiskFault refl is; door = ended_otherwise status ends.ShowFault ends.DoorFault refl is; old = ended_otherwise status ends.ShowFault ends.OldCommand refl is }
not_fold status (inr (inr (inr (inl is)))) = record { not_empty = ended_otherwise status ends.Memory ends.NotEmpty refl is; not_store = ended_otherwise status ends.Memory ends.NotStore refl is; disk = ended_otherwise status ends.Memory ends.DiskFault refl is; door = ended_otherwise status ends.Memory ends.DoorFault refl is; old = ended_otherwise status ends.Memory ends.OldCommand refl is }
not_fold status (inr (inr (inr (inr is)))) = record { not_empty = ended_otherwise status ends.TooMuch ends.NotEmpty refl is; not_store = ended_otherwise status ends.TooMuch ends.NotStore refl is; disk = ended_otherwise status ends.TooMuch ends.DiskFault refl is; door = ended_otherwise status ends.TooMuch ends.DoorFault refl is; old = ended_otherwise status ends.TooMuch ends.OldCommand refl is }

pub record NotApply (status : Status) : Type 0 where
  pub usage : status ≡ ends.Usage → ⊥
  pub not_empty : status ≡ ends.NotEmpty → ⊥
  pub door : status ≡ ends.DoorFault → ⊥
  pub old : status ≡ ends.OldCommand → ⊥

pub not_apply : (status : Status) → IsApplyStatus status → NotApply status
not_apply status (inl is) = record { usage = ended_otherwise status ends.Done ends.Usage refl is; not_empty = ended_otherwise status ends.Done ends.NotEmpty refl is; door = ended_otherwise status ends.Done ends.DoorFault refl is; old = ended_otherwise status ends.Done ends.OldCommand refl is }
not_apply status (inr (inl is)) = record { usage = ended_otherwise status ends.NotStore ends.Usage refl is; not_empty = ended_otherwise status ends.NotStore ends.NotEmpty refl is; door = ended_otherwise status ends.NotStore ends.DoorFault refl is; old = ended_otherwise status ends.NotStore ends.OldCommand refl is }
not_apply status (inr (inr (inl is))) = record { usage = ended_otherwise status ends.DiskFault ends.Usage refl is; not_empty = ended_otherwise status ends.DiskFault ends.NotEmpty refl is; door = ended_otherwise status ends.DiskFault ends.DoorFault refl is; old = ended_otherwise status ends.DiskFault ends.OldCommand refl is }
not_apply status (inr (inr (inr (inl is)))) = record { usage = ended_otherwise status ends.HearFault ends.Usage refl is; not_empty = ended_otherwise status ends.HearFault ends.NotEmpty refl is; door = ended_otherwise status ends.HearFault ends.DoorFault refl is; old = ended_otherwise status ends.HearFault ends.OldCommand refl is }
not_apply status (inr (inr (inr (inr (inl is))))) = record { usage = ended_otherwise status ends.ShowFault ends.Usage refl is; not_empty = ended_otherwise status ends.ShowFault ends.NotEmpty refl is; door = ended_otherwise status ends.ShowFault ends.DoorFault refl is; old = ended_otherwise status ends.ShowFault ends.OldCommand refl is }
not_apply status (inr (inr (inr (inr (inr (inl is)))))) = record { usage = ended_otherwise status ends.Memory ends.Usage refl is; not_empty = ended_otherwise status ends.Memory ends.NotEmpty refl is; door = ended_otherwise status ends.Memory ends.DoorFault refl is; old = ended_otherwise status ends.Memory ends.OldCommand refl is }
not_apply status (inr (inr (inr (inr (inr (inr is)))))) = record { usage = ended_otherwise status ends.TooMuch ends.Usage refl is; not_empty = ended_otherwise status ends.TooMuch ends.NotEmpty refl is; door = ended_otherwise status ends.TooMuch ends.DoorFault refl is; old = ended_otherwise status ends.TooMuch ends.OldCommand refl is }

pub record NotQuery (status : Status) : Type 0 where
  pub usage : status ≡ ends.Usage → ⊥
  pub not_empty : status ≡ ends.NotEmpty → ⊥
  pub hear : status ≡ ends.HearFault → ⊥
  pub door : status ≡ ends.DoorFault → ⊥
  pub old : status ≡ ends.OldCommand → ⊥

pub not_query : (status : Status) → IsQueryStatus status → NotQuery status
not_query status (inl is) = record { usage = ended_otherwise status ends.Done ends.Usage refl is; not_empty = ended_otherwise status ends.Done ends.NotEmpty refl is; hear = ended_otherwise status ends.Done ends.HearFault refl is; door = ended_otherwise status ends.Done ends.DoorFault refl is; old = ended_otherwise status ends.Done ends.OldCommand refl is }
not_query status (inr (inl is)) = record { usage = ended_otherwise status ends.NotStore ends.Usage refl is; not_empty = ended_otherwise status ends.NotStore ends.NotEmpty refl is; hear = ended_otherwise status ends.NotStore ends.HearFault refl is; door = ended_otherwise status ends.NotStore ends.DoorFault refl is; old = ended_otherwise status ends.NotStore ends.OldCommand refl is }
not_query status (inr (inr (inl is))) = record { usage = ended_otherwise status ends.DiskFault ends.Usage refl is; not_empty = ended_otherwise status ends.DiskFault ends.NotEmpty refl is; hear = ended_otherwise status ends.DiskFault ends.HearFault refl is; door = ended_otherwise status ends.DiskFault ends.DoorFault refl is; old = ended_otherwise status ends.DiskFault ends.OldCommand refl is }
not_query status (inr (inr (inr (inl is)))) = record { usage = ended_otherwise status ends.ShowFault ends.Usage refl is; not_empty = ended_otherwise status ends.ShowFault ends.NotEmpty refl is; hear = ended_otherwise status ends.ShowFault ends.HearFault refl is; door = ended_otherwise status ends.ShowFault ends.DoorFault refl is; old = ended_otherwise status ends.ShowFault ends.OldCommand refl is }
not_query status (inr (inr (inr (inr is)))) = record { usage = ended_otherwise status ends.Memory ends.Usage refl is; not_empty = ended_otherwise status ends.Memory ends.NotEmpty refl is; hear = ended_otherwise status ends.Memory ends.HearFault refl is; door = ended_otherwise status ends.Memory ends.DoorFault refl is; old = ended_otherwise status ends.Memory ends.OldCommand refl is }

pub record NotServe (status : Status) : Type 0 where
  pub usage : status ≡ ends.Usage → ⊥
  pub not_empty : status ≡ ends.NotEmpty → ⊥
  pub hear : status ≡ ends.HearFault → ⊥
  pub old : status ≡ ends.OldCommand → ⊥

pub not_serve : (status : Status) → IsServeStatus status → NotServe status
not_serve status (inl is) = record { usage = ended_otherwise status ends.Done ends.Usage refl is; not_empty = ended_otherwise status ends.Done ends.NotEmpty refl is; hear = ended_otherwise status ends.Done ends.HearFault refl is; old = ended_otherwise status ends.Done ends.OldCommand refl is }
not_serve status (inr (inl is)) = record { usage = ended_otherwise status ends.NotStore ends.Usage refl is; not_empty = ended_otherwise status ends.NotStore ends.NotEmpty refl is; hear = ended_otherwise status ends.NotStore ends.HearFault refl is; old = ended_otherwise status ends.NotStore ends.OldCommand refl is }
not_serve status (inr (inr (inl is))) = record { usage = ended_otherwise status ends.DiskFault ends.Usage refl is; not_empty = ended_otherwise status ends.DiskFault ends.NotEmpty refl is; hear = ended_otherwise status ends.DiskFault ends.HearFault refl is; old = ended_otherwise status ends.DiskFault ends.OldCommand refl is }
not_serve status (inr (inr (inr (inl is)))) = record { usage = ended_otherwise status ends.ShowFault ends.Usage refl is; not_empty = ended_otherwise status ends.ShowFault ends.NotEmpty refl is; hear = ended_otherwise status ends.ShowFault ends.HearFault refl is; old = ended_otherwise status ends.ShowFault ends.OldCommand refl is }
not_serve status (inr (inr (inr (inr (inl is))))) = record { usage = ended_otherwise status ends.DoorFault ends.Usage refl is; not_empty = ended_otherwise status ends.DoorFault ends.NotEmpty refl is; hear = ended_otherwise status ends.DoorFault ends.HearFault refl is; old = ended_otherwise status ends.DoorFault ends.OldCommand refl is }
not_serve status (inr (inr (inr (inr (inr is))))) = record { usage = ended_otherwise status ends.Memory ends.Usage refl is; not_empty = ended_otherwise status ends.Memory ends.NotEmpty refl is; hear = ended_otherwise status ends.Memory ends.HearFault refl is; old = ended_otherwise status ends.Memory ends.OldCommand refl is }

pub record NotMigrate (status : Status) : Type 0 where
  pub usage : status ≡ ends.Usage → ⊥
  pub not_empty : status ≡ ends.NotEmpty → ⊥
  pub hear : status ≡ ends.HearFault → ⊥
  pub door : status ≡ ends.DoorFault → ⊥

pub not_migrate : (status : Status) → IsMigrateStatus status → NotMigrate status
not_migrate status (inl is) = record { usage = ended_otherwise status ends.Done ends.Usage refl is; not_empty = ended_otherwise status ends.Done ends.NotEmpty refl is; hear = ended_otherwise status ends.Done ends.HearFault refl is; door = ended_otherwise status ends.Done ends.DoorFault refl is }
not_migrate status (inr (inl is)) = record { usage = ended_otherwise status ends.NotStore ends.Usage refl is; not_empty = ended_otherwise status ends.NotStore ends.NotEmpty refl is; hear = ended_otherwise status ends.NotStore ends.HearFault refl is; door = ended_otherwise status ends.NotStore ends.DoorFault refl is }
not_migrate status (inr (inr (inl is))) = record { usage = ended_otherwise status ends.DiskFault ends.Usage refl is; not_empty = ended_otherwise status ends.DiskFault ends.NotEmpty refl is; hear = ended_otherwise status ends.DiskFault ends.HearFault refl is; door = ended_otherwise status ends.DiskFault ends.DoorFault refl is }
not_migrate status (inr (inr (inr (inl is)))) = record { usage = ended_otherwise status ends.ShowFault ends.Usage refl is; not_empty = ended_otherwise status ends.ShowFault ends.NotEmpty refl is; hear = ended_otherwise status ends.ShowFault ends.HearFault refl is; door = ended_otherwise status ends.ShowFault ends.DoorFault refl is }
not_migrate status (inr (inr (inr (inr (inl is))))) = record { usage = ended_otherwise status ends.Memory ends.Usage refl is; not_empty = ended_otherwise status ends.Memory ends.NotEmpty refl is; hear = ended_otherwise status ends.Memory ends.HearFault refl is; door = ended_otherwise status ends.Memory ends.DoorFault refl is }
not_migrate status (inr (inr (inr (inr (inr is))))) = record { usage = ended_otherwise status ends.OldCommand ends.Usage refl is; not_empty = ended_otherwise status ends.OldCommand ends.NotEmpty refl is; hear = ended_otherwise status ends.OldCommand ends.HearFault refl is; door = ended_otherwise status ends.OldCommand ends.DoorFault refl is }

-- how an init or a drill ends that shows a line of refusal
pub init_refuses : (status : Status) → IsInitStatus status → IsRefusal status → status ≡ ends.NotEmpty
init_refuses status a (inl e) = absurd ((not_init status a).usage e)
init_refuses status a (inr (inl e)) = e
init_refuses status a (inr (inr (inl e))) = absurd ((not_init status a).not_store e)
init_refuses status a (inr (inr (inr e))) = absurd ((not_init status a).old e)

-- how an apply ends that does
pub apply_refuses : (status : Status) → IsApplyStatus status → IsRefusal status → status ≡ ends.NotStore
apply_refuses status a (inl e) = absurd ((not_apply status a).usage e)
apply_refuses status a (inr (inl e)) = absurd ((not_apply status a).not_empty e)
apply_refuses status a (inr (inr (inl e))) = e
apply_refuses status a (inr (inr (inr e))) = absurd ((not_apply status a).old e)

-- how a server ends that does
pub serve_refuses : (status : Status) → IsServeStatus status → IsRefusal status → status ≡ ends.NotStore
serve_refuses status a (inl e) = absurd ((not_serve status a).usage e)
serve_refuses status a (inr (inl e)) = absurd ((not_serve status a).not_empty e)
serve_refuses status a (inr (inr (inl e))) = e
serve_refuses status a (inr (inr (inr e))) = absurd ((not_serve status a).old e)

-- how a growing ends that does: it ends as a query may
pub query_refuses : (status : Status) → IsQueryStatus status → IsRefusal status → status ≡ ends.NotStore
query_refuses status a (inl e) = absurd ((not_query status a).usage e)
query_refuses status a (inr (inl e)) = absurd ((not_query status a).not_empty e)
query_refuses status a (inr (inr (inl e))) = e
query_refuses status a (inr (inr (inr e))) = absurd ((not_query status a).old e)

-- how a migration ends that does; `migrate` says of running out of memory what it says of these
pub migrate_refuses : (status : Status) → IsMigrateStatus status → IsRefusal status → (status ≡ ends.NotStore) ⊎ (status ≡ ends.OldCommand) ⊎ (status ≡ ends.Memory)
migrate_refuses status a (inl e) = absurd ((not_migrate status a).usage e)
migrate_refuses status a (inr (inl e)) = absurd ((not_migrate status a).not_empty e)
migrate_refuses status a (inr (inr (inl e))) = inl e
migrate_refuses status a (inr (inr (inr e))) = inr (inl e)

-- a run that shows one text is done, where nothing refuses it
pub serve_done : (status : Status) (disk door show : Type 0) → IsServeStatus status → (status ≡ ends.NotStore → ⊥) → (status ≡ ends.DiskFault → disk) → (status ≡ ends.DoorFault → door) → (status ≡ ends.ShowFault → show)
    → (disk → ⊥) → (door → ⊥) → (show → ⊥) → IsDone status
serve_done status disk door show (inl is) isnt d o s no_disk no_door no_show = inl is
serve_done status disk door show (inr (inl is)) isnt d o s no_disk no_door no_show = absurd (isnt is)
serve_done status disk door show (inr (inr (inl is))) isnt d o s no_disk no_door no_show = absurd (no_disk (d is))
serve_done status disk door show (inr (inr (inr (inl is)))) isnt d o s no_disk no_door no_show = absurd (no_show (s is))
serve_done status disk door show (inr (inr (inr (inr (inl is))))) isnt d o s no_disk no_door no_show = absurd (no_door (o is))
serve_done status disk door show (inr (inr (inr (inr (inr is))))) isnt d o s no_disk no_door no_show = inr is

pub migrate_done : (status : Status) (disk show : Type 0) → IsMigrateStatus status → (status ≡ ends.NotStore → ⊥) → (status ≡ ends.OldCommand → ⊥) → (status ≡ ends.DiskFault → disk) → (status ≡ ends.ShowFault → show)
    → (disk → ⊥) → (show → ⊥) → IsDone status
migrate_done status disk show (inl is) isnt old d s no_disk no_show = inl is
migrate_done status disk show (inr (inl is)) isnt old d s no_disk no_show = absurd (isnt is)
migrate_done status disk show (inr (inr (inl is))) isnt old d s no_disk no_show = absurd (no_disk (d is))
migrate_done status disk show (inr (inr (inr (inl is)))) isnt old d s no_disk no_show = absurd (no_show (s is))
migrate_done status disk show (inr (inr (inr (inr (inl is))))) isnt old d s no_disk no_show = inr is
migrate_done status disk show (inr (inr (inr (inr (inr is))))) isnt old d s no_disk no_show = absurd (old is)
