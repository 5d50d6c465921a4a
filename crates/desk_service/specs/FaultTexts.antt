-- The texts of the faults of a service (ours).
use Rattle.std.specs.Prelude.{ℕ, List, codes}
use Rattle.desk_service.specs.declared.faults.ServeFault.{ServeFault, TheVariants.{SocketFault, PageFault, ReadFault, OutOfMemory, NoFolder, FolderTaken, NoLocks, LongRoot, FewFiles, JournalTaken, NoJournal, BadJournal, BadVersions}}

-- the name
abbrev pub serve_fault_text : ServeFault → List ℕ
serve_fault_text SocketFault = codes "SocketFault"
serve_fault_text PageFault = codes "PageFault"
serve_fault_text ReadFault = codes "ReadFault"
serve_fault_text OutOfMemory = codes "OutOfMemory"
serve_fault_text NoFolder = codes "NoFolder"
serve_fault_text FolderTaken = codes "FolderTaken"
serve_fault_text NoLocks = codes "NoLocks"
serve_fault_text LongRoot = codes "LongRoot"
serve_fault_text FewFiles = codes "FewFiles"
serve_fault_text JournalTaken = codes "JournalTaken"
serve_fault_text NoJournal = codes "NoJournal"
serve_fault_text (BadJournal number begin) = codes "BadJournal"
serve_fault_text BadVersions = codes "BadVersions"
