-- What the program tells of itself and of faults, by its bytes.
use Rattle.std.specs.Prelude.{ℕ, List, ◌++◌, codes}
use Rattle.cbor.specs.declared.{command.Topic.{Topic, TheVariants.{Help, Version}}, fault.Fault.Fault}
use Rattle.cbor.specs.declared.fault.Fault.TheVariants as faults

abbrev pub topic_text : Topic → List ℕ
topic_text Help =
    codes "cbor: CBOR (RFC 8949) from the standard input, as lines of hex or, " ++
    codes "with --binary, as bytes,\n" ++
    codes "or from files of bytes\n" ++
    codes "\n" ++
    codes "  cbor read [--det [--core]] [limit]    " ++
    codes "each item's shortest definite encoding: 1800 gives ok 00\n" ++
    codes "  cbor canon [--core] [limit]           " ++
    codes "its deterministic one: bf02000100ff gives ok a201000200\n" ++
    codes "  cbor diag [--indent] [limit]          " ++
    codes "its diagnostic notation: a1616101 gives {\"a\": 1}\n" ++
    codes "  cbor diag --exact                     " ++
    codes "with its very heads: 9f1800ff gives [_ 0_0]\n" ++
    codes "  cbor encode [limit]                   " ++
    codes "the encoding of notation: [1, h'02'] gives 82014102\n" ++
    codes "  cbor seq                              each line's items: 0102 gives ok 01 02\n" ++
    codes "  cbor dump                             " ++
    codes "its heads, each with what it says, and an empty line\n" ++
    codes "  cbor sort [--core]                    " ++
    codes "all lines' items in order: 6161 and 00 give 00 and 6161\n" ++
    codes "  cbor diag --binary [--indent] [limit] [file..]\n" ++
    codes "                                        " ++
    codes "each item of files: cbor diag --binary a.cbor b.cbor\n" ++
    codes "  cbor diag --binary --exact [file..]   " ++
    codes "with its very heads: cbor diag --binary --exact a.cbor\n" ++
    codes "  cbor read --binary [--det [--core]] [limit] [file..]\n" ++
    codes "                                        " ++
    codes "the same in hex: cbor read --binary a.cbor\n" ++
    codes "  cbor canon --binary [--core] [limit] [file..]\n" ++
    codes "                                        " ++
    codes "in deterministic hex: cbor canon --binary a.cbor\n" ++
    codes "  cbor dump --binary [file..]           " ++
    codes "the heads of a file's item: cbor dump --binary a.cbor\n" ++
    codes "  cbor encode --binary [limit]          " ++
    codes "the lines' encodings as bytes, one behind the other\n" ++
    codes "  cbor --help, -h, cbor --version       this page, and the version\n" ++
    codes "\n" ++
    codes "--det takes deterministic encodings alone, whose keys are " ++
    codes "length-first or, with --core, bytewise.\n" ++
    codes "A bignum of more than 16 bytes is taken and written as it stands, " ++
    codes "even with zeros at its front.\n" ++
    codes "Without a file, and for the file -, the standard input is read; " ++
    codes "./300 is the file named 300.\n" ++
    codes "At most 256 levels are nested, or as many as the limit says, which is " ++
    codes "at most 10000.\n" ++
    codes "Status 1: something was refused; 2: wrong words; 3: a file, the input " ++
    codes "or the output failed\n" ++
    codes "(1 for read, seq, sort of lines).\n"
topic_text Version = codes "cbor 0.4.0\n"

abbrev pub fault_text : Fault → List ℕ
fault_text faults.Input = codes "input failed\n"
fault_text faults.Unopened = codes "cannot be opened\n"
fault_text faults.Output = codes "output failed\n"
fault_text faults.Memory = codes "memory\n"
