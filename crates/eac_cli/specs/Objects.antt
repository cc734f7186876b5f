-- What the objects of a call tell at one moment (this project's own). Bytes and rows stand where the object tells them.
-- The counts say how often a call of the object has failed.
use Rattle.std.specs.Prelude.{ℕ, List, Option}
use Rattle.eac_base.specs.declared.streams.Stream.{Ghosts as StreamOf}
use Rattle.eac_base.specs.Causes.{Rose}
use Rattle.keeper.specs.declared.keeping.Keeper.{Ghosts as KeeperOf}
use Rattle.chip_slots.specs.declared.disk.ChipDisk.{Ghosts as DiskOf}
use Rattle.signature_provider.specs.declared.provider.SignatureProvider.{Ghosts as ProviderOf}
use Rattle.eac_net.specs.Chips.{known_of}
use Rattle.eac_net.specs.Objects.{Outside, outside}

-- The objects that a run changes: the sink, and what events call.
pub record RunObjects (D : Type 0) : Type 0 where
  -- the bytes that the sink took
  pub taken : Option (List ℕ)
  -- how often a write has failed
  pub lost : ℕ
  -- the chips' disks
  pub disks : List D
  -- the keeper and the provider, and what is known of each disk
  pub outside : Outside

-- All objects of a call.
pub record Objects (D : Type 0) : Type 0 where
  -- the bytes that the source has left
  pub left : Option (List ℕ)
  -- how often a read has failed
  pub read_faults : ℕ
  -- how often it was read, where it tells that
  pub reads : Option ℕ
  pub run : RunObjects D

abbrev pub run_objects : {K D B P : Type 0} → StreamOf K → DiskOf D → KeeperOf B → ProviderOf P → K → List D → B → P → RunObjects D
run_objects K G B P sink disks keeper provider = record {
  taken = K.taken sink;
  lost = K.lost sink;
  disks = disks;
  outside = outside B P (known_of G disks) keeper provider;
}

abbrev pub objects : {S K D B P : Type 0} → StreamOf S → StreamOf K → DiskOf D → KeeperOf B → ProviderOf P → S → K → List D → B → P
    → Objects D
objects S K G B P source sink disks keeper provider = record {
  left = S.left source;
  read_faults = S.faults source;
  reads = S.reads source;
  run = run_objects K G B P sink disks keeper provider;
}

-- a read has failed from the first to the second
abbrev pub ReadFailed : {D : Type 0} → Objects D → Objects D → Type 0
ReadFailed before after = Rose before.read_faults after.read_faults

-- a write has failed
abbrev pub WriteFailed : {D : Type 0} → RunObjects D → RunObjects D → Type 0
WriteFailed before after = Rose before.lost after.lost
