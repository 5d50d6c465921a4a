-- A file in memory as contracts see it.
use Rattle.desk_tests.specs.{MemoryFiles.{KeptFile, kept_file}, declared.memory_shelf.MemoryFile.MemoryFile}

abbrev pub file_shown : MemoryFile → KeptFile
file_shown file = kept_file file.bytes.items file.version
